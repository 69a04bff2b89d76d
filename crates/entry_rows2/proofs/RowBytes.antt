-- The fields of an entry are put one behind the other into 32 zeros; an entry that lies in the image has a name and a date of full length, so its row has 32 bytes.
use mathlib.Core.Path.{◌≡◌, refl, sym, ap, ap₂, ◌∙◌}
use Prim.Native.Nat.{ℕ, ◌+◌, ◌≤◌}
use native.Mathlib.Omega.{arith}
use mathlib.Core.Bool.{Bool, true, false}
use mathlib.Core.List.{[], ◌∷◌, ◌++◌, append_assoc, append-nil}
use lib.ListN.{length, set, drop, replicate, length-append}
use Rattle.volume.specs.Bytes.{Bytes, put, zeros}
use Rattle.std.specs.Prelude.{if◌then◌else◌}
use Rattle.volume.proofs.Puts.{part_length}
use Rattle.model.specs.Entry.{Entry, vacant, a_file, a_directory}
use Rattle.model2.specs.Entry.{occupied, is_directory, is_locked, name_at, date_at, start_at, size_at, entry_at, size_bytes}
use Rattle.arrivals.specs.Listed.{entry_told}
use Rattle.entry_bytes.proofs.Puts.{put_behind}
use Rattle.entry_rows2.specs.Row.{flag, row_bytes, entry_bytes}

module _ (kind locked size : ℕ) (date name : Bytes) (ld : length date ≡ 8) (ln : length name ≡ 16) where
  abbrev marks : Bytes
  marks = 1 ∷ kind ∷ locked ∷ 0 ∷ []

  sized : put 4 (size_bytes size) (set (set (set (replicate 32 0) 0 1) 1 kind) 2 locked) ≡ (marks ++ size_bytes size) ++ replicate 24 0
  sized = put_behind 4 marks (size_bytes size) (replicate 28 0) refl

  dated : put 8 date ((marks ++ size_bytes size) ++ replicate 24 0) ≡ ((marks ++ size_bytes size) ++ date) ++ replicate 16 0
  dated =
      put_behind 8 (marks ++ size_bytes size) date (replicate 24 0) refl
      ∙ ap (λ (n : ℕ). (marks ++ size_bytes size) ++ (date ++ drop n (replicate 24 0))) ld
      ∙ sym (append_assoc (marks ++ size_bytes size) date (replicate 16 0))

  named : put 16 name (((marks ++ size_bytes size) ++ date) ++ replicate 16 0) ≡ row_bytes kind locked size date name
  unfolding row_bytes
  named =
      put_behind 16 ((marks ++ size_bytes size) ++ date) name (replicate 16 0) (omega (arith, length-append (marks ++ size_bytes size) date))
      ∙ ap (λ (n : ℕ). ((marks ++ size_bytes size) ++ date) ++ (name ++ drop n (replicate 16 0))) ln
      ∙ ap (λ (v : Bytes). ((marks ++ size_bytes size) ++ date) ++ v) (append-nil name)
      ∙ append_assoc (marks ++ size_bytes size) date name

  -- into a part of 32 bytes that was zeroed: p it was, and p₀ it came back as
  pub filled_row : (p : Bytes) {p₀ w a d r : Bytes} → length p ≡ 32 → p₀ ≡ zeros (length p) → w ≡ size_bytes size
      → a ≡ put 4 w (set (set (set p₀ 0 1) 1 kind) 2 locked) → d ≡ put 8 date a → r ≡ put 16 name d → r ≡ row_bytes kind locked size date name
  unfolding zeros
  filled_row p {p₀} {w} {a} {d} long e₀ ew ea ed er =
      let first : a ≡ (marks ++ size_bytes size) ++ replicate 24 0 =
      ea ∙ ap₂ (λ (v x : Bytes). put 4 v (set (set (set x 0 1) 1 kind) 2 locked)) ew (e₀ ∙ ap (λ (n : ℕ). replicate n 0) long) ∙ sized in
      er ∙ ap (put 16 name) (ed ∙ ap (put 8 date) first ∙ dated) ∙ named

  pub row_length : length (row_bytes kind locked size date name) ≡ 32
  unfolding row_bytes
  row_length = omega (arith, length-append (size_bytes size) (date ++ name), length-append date name)

-- ---- the entry at a position

module _ (z : ℕ) (b : Bytes) (at : ℕ) where
  abbrev its : Bytes
  its = entry_bytes (entry_told z (entry_at b at))

  pub its_length : at + 32 ≤ length b → length its ≡ 32
  unfolding entry_at entry_told entry_bytes zeros
  its_length h = go (occupied b at) (is_directory b at)
    where
      ln : length (name_at b at) ≡ 16
      ln = part_length (at + 1) 16 b (omega arith)

      ld : length (date_at b at) ≡ 8
      ld = part_length (at + 23) 8 b (omega arith)

      go : (o d : Bool) → length (entry_bytes (entry_told z (
          if o
          then (if d then a_directory (name_at b at) (date_at b at) (start_at b at) (size_at b at) else a_file (is_locked b at) (name_at b at) (date_at b at) (start_at b at) (size_at b at))
          else vacant))) ≡ 32
      go true true = row_length 1 0 z (date_at b at) (name_at b at) ld ln
      go true false = row_length 0 (flag (is_locked b at)) (size_at b at) (date_at b at) (name_at b at) ld ln
      go false d = refl

  -- as the code reads it
  pub put_vacant : {r : Bytes} {l : ℕ} → l ≡ 32 → r ≡ zeros l → vacant ≡ entry_at b at → r ≡ its
  unfolding entry_told entry_bytes
  put_vacant long e is = e ∙ ap zeros long ∙ ap (λ (x : Entry). entry_bytes (entry_told z x)) is

  module _ {date name r : Bytes} (is_date : date ≡ date_at b at) (is_name : name ≡ name_at b at) where
    pub put_file : {l : Bool} {locked start size : ℕ} → l ≡ is_locked b at → locked ≡ flag l → r ≡ row_bytes 0 locked size date name
        → a_file (is_locked b at) (name_at b at) (date_at b at) start size ≡ entry_at b at → r ≡ its
    unfolding entry_told entry_bytes
    put_file {l} {locked} {start} {size} el ef er is =
        er ∙ ap (λ (m : ℕ). row_bytes 0 m size date name) (ef ∙ ap flag el)
        ∙ ap₂ (λ (d n : Bytes). row_bytes 0 (flag (is_locked b at)) size d n) is_date is_name ∙ ap (λ (x : Entry). entry_bytes (entry_told z x)) is

    pub put_directory : {start size : ℕ} → r ≡ row_bytes 1 0 z date name → a_directory (name_at b at) (date_at b at) start size ≡ entry_at b at → r ≡ its
    unfolding entry_told entry_bytes
    put_directory {start} {size} er is = er ∙ ap₂ (λ (d n : Bytes). row_bytes 1 0 z d n) is_date is_name ∙ ap (λ (x : Entry). entry_bytes (entry_told z x)) is
