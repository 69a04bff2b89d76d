-- The 32 bytes that a make of version 2 will write, read back, and a size or a lock put into an entry: each field is where an entry has it.
use mathlib.Core.Path.{◌≡◌, sym, ap, ap₂, ◌∙◌}
use mathlib.Core.Logic.{◌≢◌}
use Prim.Native.Nat.{ℕ, suc, ◌+◌, ◌*◌, ◌/◌, ◌%◌, ◌≤◌, ◌<◌}
use native.Mathlib.Omega.{arith}
use mathlib.Core.Bool.{Bool, false}
use mathlib.Core.List.{[], ◌∷◌, ◌++◌}
use lib.ListN.{length, length-append, get_or-append}
use lib.Seq.{ext_get_or, get_or-append-add}
use lib.Dec.{T, eqb}
use Rattle.volume.specs.Bytes.{Bytes, byte_at, part, le16, bit}
use Rattle.volume.specs.Field.{pair, load}
use Rattle.volume.proofs.Puts.{byte_part, part_length, part_bytes}
use Rattle.model.specs.Entry.{a_file, a_directory}
use Rattle.model.specs.EffectOf.{with_lock}
use Rattle.view_laws.proofs.FileEntry.{is_file_entry, still_file, lock_bits, lock_mark}
use Rattle.model2.specs.Entry.{occupied, is_directory, is_locked, name_at, start_field, start_at, size_at, date_at, entry_at, size_bytes, new_entry}

-- a stretch is known by its bytes
part_is : (s n : ℕ) (b v : Bytes) → s + n ≤ length b → length v ≡ n → ((i : ℕ) → i < n → byte_at b (s + i) ≡ byte_at v i) → part s n b ≡ v
part_is s n b v h e k = ext_get_or 0 (part s n b) v (part_length s n b h ∙ sym e)
    (λ i l. let u : i < n = omega (arith, part_length s n b h) in byte_part s n i b u ∙ k i u)

-- the size that an entry says, by its four bytes
pub size_is : (size : ℕ) (b : Bytes) (at : ℕ) → ((i : ℕ) → i < 4 → byte_at b (at + 19 + i) ≡ byte_at (size_bytes size) i) → size_at b at ≡ size
size_is size b at h =
    let e₀ : at + 19 + 0 ≡ at + 19 = omega arith in
    let e₂ : at + 19 + 2 ≡ at + 21 = omega arith in
    let e₃ : at + 19 + 3 ≡ at + 21 + 1 = omega arith in
    let x₀ : byte_at b (at + 19) ≡ size % 65536 % 256 = ap (byte_at b) (sym e₀) ∙ h 0 (omega arith) in
    let x₁ : byte_at b (at + 19 + 1) ≡ size % 65536 / 256 = h 1 (omega arith) in
    let x₂ : byte_at b (at + 21) ≡ size / 65536 % 256 = ap (byte_at b) (sym e₂) ∙ h 2 (omega arith) in
    let x₃ : byte_at b (at + 21 + 1) ≡ size / 65536 / 256 = ap (byte_at b) (sym e₃) ∙ h 3 (omega arith) in
    omega arith

module _ (fl : ℕ) (name : Bytes) (size : ℕ) (date : Bytes) (ln : length name ≡ 16) (ld : length date ≡ 8) where
  abbrev rest : Bytes
  rest = le16 0 ++ (size_bytes size ++ (date ++ (0 ∷ [])))

  pub new_length : length (new_entry fl name size date) ≡ 32
  unfolding new_entry
  new_length = omega (arith, length-append name rest, length-append date (0 ∷ []))

  new_name : (i : ℕ) → i < 16 → byte_at (new_entry fl name size date) (suc i) ≡ byte_at name i
  unfolding new_entry
  new_name i l = get_or-append name rest 0 i (omega arith)

  new_rest : (i : ℕ) → byte_at (new_entry fl name size date) (17 + i) ≡ byte_at rest i
  unfolding new_entry
  new_rest i =
      let e : 17 + i ≡ suc (length name + i) = omega arith in
      ap (byte_at (fl ∷ (name ++ rest))) e ∙ get_or-append-add name rest i 0

  new_date : (i : ℕ) → i < 8 → byte_at (new_entry fl name size date) (23 + i) ≡ byte_at date i
  new_date i l =
      let e : 23 + i ≡ 17 + suc (suc (suc (suc (suc (suc i))))) = omega arith in
      ap (byte_at (new_entry fl name size date)) e ∙ new_rest (suc (suc (suc (suc (suc (suc i)))))) ∙ get_or-append date (0 ∷ []) 0 i (omega arith)

  new_size : (i : ℕ) → i < 4 → byte_at (new_entry fl name size date) (19 + i) ≡ byte_at (size_bytes size) i
  new_size i l =
      let e : 19 + i ≡ 17 + suc (suc i) = omega arith in
      ap (byte_at (new_entry fl name size date)) e ∙ new_rest (suc (suc i)) ∙ get_or-append (size_bytes size) (date ++ (0 ∷ [])) 0 i (omega arith)

  -- it names no start page yet
  pub new_start : load (start_field 0) (new_entry fl name size date) ≡ 0
  new_start =
      let x : byte_at (new_entry fl name size date) 17 ≡ 0 = new_rest 0 in
      let y : byte_at (new_entry fl name size date) 18 ≡ 0 = new_rest 1 in
      omega (arith, x, y)

  -- an image that has these bytes at `at`, but perhaps another start page
  module _ (b : Bytes) (at : ℕ) (inside : at + 32 ≤ length b)
      (has : (i : ℕ) → i < 32 → i ≢ 17 → i ≢ 18 → byte_at b (at + i) ≡ byte_at (new_entry fl name size date) i) where
    has_flags : byte_at b at ≡ fl
    unfolding new_entry
    has_flags = let e : at ≡ at + 0 = omega arith in ap (byte_at b) e ∙ has 0 (omega arith) (omega arith) (omega arith)

    has_name : name_at b at ≡ name
    has_name = part_is (at + 1) 16 b name (omega arith) ln (λ i l.
        let e : at + 1 + i ≡ at + suc i = omega arith in
        ap (byte_at b) e ∙ has (suc i) (omega arith) (omega arith) (omega arith) ∙ new_name i l)

    has_date : date_at b at ≡ date
    has_date = part_is (at + 23) 8 b date (omega arith) ld (λ i l.
        let e : at + 23 + i ≡ at + (23 + i) = omega arith in
        ap (byte_at b) e ∙ has (23 + i) (omega arith) (omega arith) (omega arith) ∙ new_date i l)

    has_size : size_at b at ≡ size
    has_size = size_is size b at (λ i l.
        let e : at + 19 + i ≡ at + (19 + i) = omega arith in
        ap (byte_at b) e ∙ has (19 + i) (omega arith) (omega arith) (omega arith) ∙ new_size i l)

    pub is_file_lem : fl ≡ 0x80 → entry_at b at ≡ a_file false name date (start_at b at) size
    unfolding entry_at
    is_file_lem e = rw (has_flags, has_name, has_date, has_size, e)

    pub is_directory_lem : fl ≡ 0x81 → entry_at b at ≡ a_directory name date (start_at b at) size
    unfolding entry_at
    is_directory_lem e = rw (has_flags, has_name, has_date, has_size, e)

-- ---- a file with another size, and perhaps another start page

pub resized : (b b' : Bytes) (at size : ℕ) → length b' ≡ length b → T (is_file_entry (entry_at b at))
    → ((i : ℕ) → at ≤ i → i < at + 32 → (at + 17 ≤ i → at + 23 ≤ i) → byte_at b' i ≡ byte_at b i)
    → ((i : ℕ) → i < 4 → byte_at b' (at + 19 + i) ≡ byte_at (size_bytes size) i)
    → entry_at b' at ≡ a_file (is_locked b at) (name_at b at) (date_at b at) (start_at b' at) size
unfolding entry_at
resized b b' at size len file kept has =
    let f : byte_at b' at ≡ byte_at b at = kept at (omega arith) (omega arith) (λ h. omega arith) in
    let n : name_at b' at ≡ name_at b at = part_bytes (at + 1) 16 b b' len (λ i l u. kept i (omega arith) (omega arith) (λ h. omega arith)) in
    let d : date_at b' at ≡ date_at b at = part_bytes (at + 23) 8 b b' len (λ i l u. kept i (omega arith) (omega arith) (λ h. omega arith)) in
    rw (f, n, d, size_is size b' at has)
    (still_file (occupied b at) (is_directory b at) (is_locked b at) (is_locked b at) (name_at b at) (date_at b at) (start_at b at) (start_at b' at) (size_at b at) size file)

-- a file's entry is what its fields say
pub file_is : (b : Bytes) (at : ℕ) → T (is_file_entry (entry_at b at)) → entry_at b at ≡ a_file (is_locked b at) (name_at b at) (date_at b at) (start_at b at) (size_at b at)
unfolding entry_at
file_is b at h =
    still_file (occupied b at) (is_directory b at) (is_locked b at) (is_locked b at) (name_at b at) (date_at b at) (start_at b at) (start_at b at) (size_at b at) (size_at b at) h

-- a file with another lock
pub relocked : (b b' : Bytes) (at : ℕ) (k : Bool) → length b' ≡ length b → T (is_file_entry (entry_at b at)) → byte_at b' at ≡ with_lock k (byte_at b at)
    → ((i : ℕ) → at < i → byte_at b' i ≡ byte_at b i) → entry_at b' at ≡ a_file k (name_at b at) (date_at b at) (start_at b at) (size_at b at)
unfolding entry_at
relocked b b' at k len file flags kept =
    let r = lock_bits k (byte_at b at) in
    let o : occupied b' at ≡ occupied b at = ap (λ (x : ℕ). eqb (bit 7 x) 1) flags ∙ ap (λ (x : ℕ). eqb x 1) r.0 in
    let c : is_directory b' at ≡ is_directory b at = ap (λ (x : ℕ). eqb (bit 0 x) 1) flags ∙ ap (λ (x : ℕ). eqb x 1) r.1 in
    let l : is_locked b' at ≡ k = ap (λ (x : ℕ). eqb (bit 6 x) 1) flags ∙ ap (λ (x : ℕ). eqb x 1) r.2 ∙ lock_mark k in
    let n : name_at b' at ≡ name_at b at = part_bytes (at + 1) 16 b b' len (λ i u v. kept i (omega arith)) in
    let d : date_at b' at ≡ date_at b at = part_bytes (at + 23) 8 b b' len (λ i u v. kept i (omega arith)) in
    let pair-kept : (i : ℕ) → at < i → load (pair i) b' ≡ load (pair i) b = λ i h. ap₂ (λ (x y : ℕ). x + 256 * y) (kept i h) (kept (i + 1) (omega (arith, h))) in
    rw (o, c, l, n, d, pair-kept (at + 17) (omega arith), pair-kept (at + 19) (omega arith), pair-kept (at + 21) (omega arith))
    (still_file (occupied b at) (is_directory b at) (is_locked b at) k (name_at b at) (date_at b at) (start_at b at) (start_at b at) (size_at b at) (size_at b at) file)
