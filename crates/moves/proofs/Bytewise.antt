-- The bytes of the moved image, page by page and entry by entry: page `to p` is what became of page p, and an entry is its 32 bytes.
use mathlib.Core.Path.{◌≡◌, refl, sym, ap, ◌∙◌}
use mathlib.Core.Logic.{◌≢◌}
use Prim.Native.Nat.{ℕ, zero, suc, ◌+◌, ◌-◌, ◌*◌, ◌≤◌, ◌<◌}
use native.Mathlib.Omega.{arith}
use native.Mathlib.Nat.{mul-suc, mul-zero}
use mathlib.Core.Bool.{Bool, true, false}
use mathlib.Core.List.{List, [], ◌∷◌, ◌++◌, map, flat_map}
use lib.ListN.{length, get_or, take, drop, set, length-set}
use lib.Seq.{get_or-set_same, get_or-set_other, drop-append-add, take_at}
use lib.Dec.{eqb-suc-zero}
use Rattle.volume.specs.Bytes.{Bytes, byte_at, part}
use Rattle.std.specs.Prelude.{if◌then◌else◌}
use Rattle.volume.specs.Lists.{up_to}
use Rattle.volume.proofs.Occ.{Mem, mem_head, mem_tail}
use Rattle.volume.proofs.Puts.{byte_part, part_part, part_length, part_bytes}
use Rattle.model.specs.Entry.{entry_count, entries_start, entries, occupied, is_directory, is_locked, name_at, start_at, size_at, date_at, Entry, vacant, a_file, a_directory, entry_at}
use Rattle.moves.specs.Tidy.{place_of, moved_entry}
use Rattle.audit.proofs.Owners.{get_d_count_from, length_count_from}
use Rattle.moves.proofs.Renamed.{renamed, position}

-- ---- stretches of equal length

pub part_flat_map : (f : ℕ → Bytes) (n : ℕ) (xs : List ℕ) (i : ℕ) → i < length xs → ((x : ℕ) → Mem x xs → length (f x) ≡ n) → part (n * i) n (flat_map f xs) ≡ f (get_or xs i 0)
unfolding flat_map
part_flat_map f n [] i l h = absurd (omega arith)
part_flat_map f n (x ∷ xs) zero l h = ap (λ (k : ℕ). take n (drop k (f x ++ flat_map f xs))) (mul-zero n) ∙ take_at (f x) (flat_map f xs) n (h x (mem_head x xs))
part_flat_map f n (x ∷ xs) (suc i) l h =
    let e : n * suc i ≡ length (f x) + n * i = omega (arith, h x (mem_head x xs), mul-suc n i) in
    ap (λ (k : ℕ). take n (drop k (f x ++ flat_map f xs))) e
    ∙ ap (take n) (drop-append-add (f x) (flat_map f xs) (n * i))
    ∙ part_flat_map f n xs i (omega arith) (λ y m. h y (mem_tail y x xs m))

pub length-map : {A : Type 0} (f : ℕ → A) (xs : List ℕ) → length (map f xs) ≡ length xs
length-map f [] = refl
length-map f (x ∷ xs) = ap suc (length-map f xs)

pub get_d_map : (f : ℕ → ℕ) (xs : List ℕ) (i : ℕ) → i < length xs → get_or (map f xs) i 0 ≡ f (get_or xs i 0)
get_d_map f [] i l = absurd (omega arith)
get_d_map f (x ∷ xs) zero l = refl
get_d_map f (x ∷ xs) (suc i) l = get_d_map f xs i (omega arith)

-- ---- an entry is its 32 bytes

pub entry_part : (b : Bytes) (at : ℕ) → entry_at b at ≡ entry_at (part at 32 b) 0
unfolding entry_at
entry_part b at =
    let l : Bytes = part at 32 b in
    let byte : (j : ℕ) → j < 32 → byte_at b (at + j) ≡ byte_at l j = λ j u. sym (byte_part at 32 j b u) in
    let z : at ≡ at + 0 = omega arith in
    let f : byte_at b at ≡ byte_at l 0 = ap (byte_at b) z ∙ byte 0 (omega arith) in
    let n : name_at b at ≡ name_at l 0 = sym (part_part at 32 1 16 b (omega arith)) in
    let d : date_at b at ≡ date_at l 0 = sym (part_part at 32 20 8 b (omega arith)) in
    let s : start_at b at ≡ start_at l 0 = byte 17 (omega arith) in
    let x : byte_at b (at + 18) ≡ byte_at l 18 = byte 18 (omega arith) in
    let y : byte_at b (at + 19) ≡ byte_at l 19 = byte 19 (omega arith) in
    rw (f, n, d, s, x, y)

-- an entry with another start page
abbrev restarted : ℕ → Entry → Entry
restarted x vacant = vacant
restarted x (a_file locked name date start size) = a_file locked name date x size
restarted x (a_directory name date start size) = a_directory name date x size

restarted_if : (c d k : Bool) (n t : Bytes) (s x z : ℕ)
    → (if c then (if d then a_directory n t x z else a_file k n t x z) else vacant) ≡ restarted x (if c then (if d then a_directory n t s z else a_file k n t s z) else vacant)
restarted_if true true k n t s x z = refl
restarted_if true false k n t s x z = refl
restarted_if false d k n t s x z = refl

renamed_if : (to : ℕ → ℕ) (c d k : Bool) (n t : Bytes) (s z : ℕ)
    → restarted (to s) (if c then (if d then a_directory n t s z else a_file k n t s z) else vacant) ≡ renamed to (if c then (if d then a_directory n t s z else a_file k n t s z) else vacant)
renamed_if to true true k n t s z = refl
renamed_if to true false k n t s z = refl
renamed_if to false d k n t s z = refl

entry_set : (l : Bytes) (x : ℕ) → length l ≡ 32 → entry_at (set l 17 x) 0 ≡ restarted x (entry_at l 0)
unfolding entry_at
entry_set l x len =
    let l' : Bytes = set l 17 x in
    let other : (j : ℕ) → j ≢ 17 → byte_at l' j ≡ byte_at l j = λ j ne. get_or-set_other l 17 j x 0 ne in
    let f : byte_at l' 0 ≡ byte_at l 0 = other 0 (omega arith) in
    let n : name_at l' 0 ≡ name_at l 0 = part_bytes 1 16 l l' (length-set l 17 x) (λ i a u. other i (omega arith)) in
    let d : date_at l' 0 ≡ date_at l 0 = part_bytes 20 8 l l' (length-set l 17 x) (λ i a u. other i (omega arith)) in
    let s : start_at l' 0 ≡ x = get_or-set_same l 17 x 0 (omega arith) in
    let v : byte_at l' 18 ≡ byte_at l 18 = other 18 (omega arith) in
    let w : byte_at l' 19 ≡ byte_at l 19 = other 19 (omega arith) in
    rw (f, n, d, s, v, w) (restarted_if (occupied l 0) (is_directory l 0) (is_locked l 0) (name_at l 0) (date_at l 0) (start_at l 0) x (size_at l 0))

vacant_entry : (b : Bytes) (at : ℕ) → occupied b at ≡ false → entry_at b at ≡ vacant
unfolding entry_at
vacant_entry b at e = ap (λ (c : Bool). if c then (if is_directory b at then a_directory (name_at b at) (date_at b at) (start_at b at) (size_at b at) else a_file (is_locked b at) (name_at b at) (date_at b at) (start_at b at) (size_at b at)) else vacant) e

restarted_renamed : (to : ℕ → ℕ) (b : Bytes) (at : ℕ) → restarted (to (start_at b at)) (entry_at b at) ≡ renamed to (entry_at b at)
unfolding entry_at
restarted_renamed to b at = renamed_if to (occupied b at) (is_directory b at) (is_locked b at) (name_at b at) (date_at b at) (start_at b at) (size_at b at)

moved_entry_lem : (places : List ℕ) (b : Bytes) (at : ℕ) → at + 32 ≤ length b → entry_at (moved_entry places b at) 0 ≡ renamed (place_of places) (entry_at b at)
unfolding moved_entry
moved_entry_lem places b at h = go (occupied b at) refl
  where
    go : (c : Bool) → occupied b at ≡ c → entry_at (if c then set (part at 32 b) 17 (place_of places (start_at b at)) else part at 32 b) 0 ≡ renamed (place_of places) (entry_at b at)
    go true e =
        entry_set (part at 32 b) (place_of places (start_at b at)) (part_length at 32 b h)
        ∙ ap (restarted (place_of places (start_at b at))) (sym (entry_part b at))
        ∙ restarted_renamed (place_of places) b at
    go false e = sym (entry_part b at) ∙ vacant_entry b at e ∙ ap (renamed (place_of places)) (sym (vacant_entry b at e))

pub entry_moves : (places : List ℕ) (b b' : Bytes) (at at' : ℕ) → at + 32 ≤ length b → part at' 32 b' ≡ moved_entry places b at → entry_at b' at' ≡ renamed (place_of places) (entry_at b at)
entry_moves places b b' at at' h e = entry_part b' at' ∙ ap (λ (l : Bytes). entry_at l 0) e ∙ moved_entry_lem places b at h

pub length_moved_entry : (places : List ℕ) (b : Bytes) (at : ℕ) → at + 32 ≤ length b → length (moved_entry places b at) ≡ 32
unfolding moved_entry
length_moved_entry places b at h = go (occupied b at)
  where
    go : (c : Bool) → length (if c then set (part at 32 b) 17 (place_of places (start_at b at)) else part at 32 b) ≡ 32
    go true = length-set (part at 32 b) 17 (place_of places (start_at b at)) ∙ part_length at 32 b h
    go false = part_length at 32 b h

-- ---- the entries of a directory

pub count_of : (p : ℕ) → 1 ≤ p → entry_count p ≡ 8
count_of zero l = absurd (omega arith)
count_of (suc p) l = ap (λ (c : Bool). if c then 6 else 8) (eqb-suc-zero p)

pub start_of : (p : ℕ) → 1 ≤ p → entries_start p ≡ 256 * p
start_of zero l = absurd (omega arith)
start_of (suc p) l = ap (λ (c : Bool). 256 * suc p + (if c then 64 else 0)) (eqb-suc-zero p) ∙ omega arith

pub length_entries : (p : ℕ) → length (entries p) ≡ entry_count p
unfolding entries
length_entries p = length-map (position p) (up_to (entry_count p)) ∙ length_count_from 0 (entry_count p)

pub get_d_entries : (p i : ℕ) → i < entry_count p → get_or (entries p) i 0 ≡ position p i
unfolding entries
get_d_entries p i l =
    get_d_map (position p) (up_to (entry_count p)) i (omega (arith, length_count_from 0 (entry_count p)))
    ∙ ap (position p) (get_d_count_from 0 (entry_count p) i l ∙ omega arith)
