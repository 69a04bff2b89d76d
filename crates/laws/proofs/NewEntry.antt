-- The 32 bytes that a make writes, read back: each field is where an entry has it.
use mathlib.Core.Path.{◌≡◌, sym, ap, ◌∙◌}
use mathlib.Core.Logic.{◌≢◌}
use Prim.Native.Nat.{ℕ, suc, ◌+◌, ◌/◌, ◌%◌, ◌≤◌, ◌<◌}
use native.Mathlib.Omega.{arith}
use mathlib.Core.Bool.{false}
use mathlib.Core.List.{◌∷◌, ◌++◌}
use lib.ListN.{length, replicate, length-append, get_or-append}
use lib.Seq.{ext_get_or, get_or-append-add}
use Rattle.volume.specs.Bytes.{Bytes, byte_at, part, le16}
use Rattle.volume.proofs.Puts.{byte_part, part_length}
use Rattle.model.specs.Entry.{name_at, start_at, size_at, date_at, a_file, a_directory, entry_at, new_entry}

-- a stretch is known by its bytes
part_is : (s n : ℕ) (b v : Bytes) → s + n ≤ length b → length v ≡ n → ((i : ℕ) → i < n → byte_at b (s + i) ≡ byte_at v i) → part s n b ≡ v
part_is s n b v h e k = ext_get_or 0 (part s n b) v (part_length s n b h ∙ sym e)
    (λ i l. let u : i < n = omega (arith, part_length s n b h) in byte_part s n i b u ∙ k i u)

module _ (fl : ℕ) (name : Bytes) (size : ℕ) (date : Bytes) (ln : length name ≡ 16) (ld : length date ≡ 8) where
  pub new_length : length (new_entry fl name 0 size date) ≡ 32
  unfolding new_entry
  new_length = omega (arith, length-append name (0 ∷ (le16 size ++ (date ++ replicate 4 0))), length-append date (replicate 4 0))

  new_name : (i : ℕ) → i < 16 → byte_at (new_entry fl name 0 size date) (suc i) ≡ byte_at name i
  unfolding new_entry
  new_name i l = get_or-append name (0 ∷ (le16 size ++ (date ++ replicate 4 0))) 0 i (omega arith)

  new_rest : (i : ℕ) → byte_at (new_entry fl name 0 size date) (17 + i) ≡ byte_at (0 ∷ (le16 size ++ (date ++ replicate 4 0))) i
  unfolding new_entry
  new_rest i =
      let e : 17 + i ≡ suc (length name + i) = omega arith in
      ap (byte_at (fl ∷ (name ++ (0 ∷ (le16 size ++ (date ++ replicate 4 0)))))) e ∙ get_or-append-add name (0 ∷ (le16 size ++ (date ++ replicate 4 0))) i 0

  new_date : (i : ℕ) → i < 8 → byte_at (new_entry fl name 0 size date) (20 + i) ≡ byte_at date i
  new_date i l =
      let e : 20 + i ≡ 17 + suc (suc (suc i)) = omega arith in
      ap (byte_at (new_entry fl name 0 size date)) e ∙ new_rest (suc (suc (suc i))) ∙ get_or-append date (replicate 4 0) 0 i (omega arith)

  pub new_start : byte_at (new_entry fl name 0 size date) 17 ≡ 0
  new_start = new_rest 0

  -- an image that has these bytes at `at`, but perhaps another start page
  module _ (b : Bytes) (at : ℕ) (inside : at + 32 ≤ length b) (has : (i : ℕ) → i < 32 → i ≢ 17 → byte_at b (at + i) ≡ byte_at (new_entry fl name 0 size date) i) where
    has_flags : byte_at b at ≡ fl
    unfolding new_entry
    has_flags = let e : at ≡ at + 0 = omega arith in ap (byte_at b) e ∙ has 0 (omega arith) (omega arith)

    has_name : name_at b at ≡ name
    has_name = part_is (at + 1) 16 b name (omega arith) ln (λ i l.
        let e : at + 1 + i ≡ at + suc i = omega arith in
        ap (byte_at b) e ∙ has (suc i) (omega arith) (omega arith) ∙ new_name i l)

    has_date : date_at b at ≡ date
    has_date = part_is (at + 20) 8 b date (omega arith) ld (λ i l.
        let e : at + 20 + i ≡ at + (20 + i) = omega arith in
        ap (byte_at b) e ∙ has (20 + i) (omega arith) (omega arith) ∙ new_date i l)

    has_size : size_at b at ≡ size
    has_size =
        let x : byte_at b (at + 18) ≡ size % 256 = has 18 (omega arith) (omega arith) ∙ new_rest 1 in
        let y : byte_at b (at + 19) ≡ size / 256 = has 19 (omega arith) (omega arith) ∙ new_rest 2 in
        omega arith

    pub is_file_lem : fl ≡ 0x80 → entry_at b at ≡ a_file false name date (start_at b at) size
    unfolding entry_at
    is_file_lem e = rw (has_flags, has_name, has_date, has_size, e)

    pub is_directory_lem : fl ≡ 0x81 → entry_at b at ≡ a_directory name date (start_at b at) size
    unfolding entry_at
    is_directory_lem e = rw (has_flags, has_name, has_date, has_size, e)
