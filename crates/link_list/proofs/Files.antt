-- Equal lists and equal bytes go together: a list that may be written is read back from its file, and a file that is read is that of its rows.
use mathlib.Core.Path.{◌≡◌, refl, sym, ap, subst, ◌∙◌}
use mathlib.Core.Bool.{Bool, true, false}
use mathlib.Core.Option.{Option, none, some, some-ne-none}
use Prim.Native.Nat.{ℕ, zero, suc, ◌+◌, ◌-◌, ◌/◌, ◌≤◌, ◌<◌}
use native.Mathlib.Omega.{arith}
use native.Mathlib.Decide.{dec_lt}
use mathlib.Core.List.{List, [], ◌∷◌, ◌++◌}
use lib.ListN.{length, length-append}
use lib.Dec.{eqb, ltb, T}
use borrow.Author.Tests.{ne_eqb, eqb-true, eqb-false, lt-ltb, le-ltb}
use Rattle.volume.specs.Bytes.{Bytes}
use Rattle.std.specs.Prelude.{if◌then◌else◌}
use Rattle.volume.proofs.Small.{Small}
use Rattle.model.specs.Call.{Refusal, refusal_at}
use Rattle.link_list.specs.declared.Row.{Row}
use Rattle.link_list.specs.Coding.{groups, Taken, in_range, row_bytes, take_row, file_of}
use Rattle.link_list.specs.Judging.{follows, Reading, bad, rows, row, read_row, read_from, read_list, bad_from, bad_row}
use Rattle.link_list.proofs.Rows.{holds, held, apart, take_row_lem, row_spelled, small_behind}

-- ---- a row has bytes

number_long : (n : ℕ) → 1 ≤ length (groups 8 n)
unfolding groups
number_long n = elim (dec_lt n 128) [ yes l ↦ rw (lt-ltb n 128 l) (omega arith) | no l ↦ rw (le-ltb n 128 (omega arith)) (omega arith) ]

bytes_long : (r : Row) → 1 ≤ length (row_bytes r)
bytes_long r =
    let e : length (row_bytes r ++ []) ≡ length (groups 8 r.count) + length (groups 8 r.value ++ (groups 8 r.figure ++ [])) =
    ap {B = ℕ} length (apart r []) ∙ length-append (groups 8 r.count) (groups 8 r.value ++ (groups 8 r.figure ++ [])) in
    omega (arith, e, number_long r.count, length-append (row_bytes r) [])

pub row_long : (r : Row) (v : Bytes) → length v < length (row_bytes r ++ v)
row_long r v = omega (arith, length-append (row_bytes r) v, bytes_long r)

file_next : (r : Row) (rs : List Row) → file_of (r ∷ rs) ≡ row_bytes r ++ file_of rs
unfolding file_of
file_next r rs = refl

-- ---- what a list without a bad row has at its head

pub record Head (i : ℕ) (before : Option Row) (r : Row) (rs : List Row) : Type 0 where
  pub ranged : T (in_range r)
  pub follow : follows before r ≡ true
  pub rest : bad_from (i + 1) (some r) rs ≡ none

pub head_good : (i : ℕ) (before : Option Row) (r : Row) (rs : List Row) → bad_from i before (r ∷ rs) ≡ none → Head i before r rs
unfolding bad_from
head_good i before r rs e = go (in_range r) (follows before r) refl refl
  where
    go : (a b : Bool) → in_range r ≡ a → follows before r ≡ b → Head i before r rs
    go true true x y = record { ranged = held (in_range r) x; follow = y; rest = rw (x, y) at e }
    go true false x y = absurd (some-ne-none _ (rw (x, y) at e))
    go false b x y = absurd (some-ne-none _ (rw x at e))

good_head : (i : ℕ) (before : Option Row) (r : Row) (rs : List Row) → Head i before r rs → bad_from i before (r ∷ rs) ≡ none
unfolding bad_from
good_head i before r rs h = rw (holds (in_range r) h.ranged, h.follow) h.rest

-- ---- written, then read

nothing_read : (most size i : ℕ) (before : Option Row) → read_from most size i before [] ≡ rows []
unfolding read_from
nothing_read zero size i before = refl
nothing_read (suc most) size i before = refl

-- one row more
read_step : (r : Row) (w : Bytes) (rs : List Row) (most size i : ℕ) (before : Option Row) → T (in_range r) → follows before r ≡ true
    → read_from most size (i + 1) (some r) w ≡ rows rs → read_from (suc most) size i before (row_bytes r ++ w) ≡ rows (r ∷ rs)
unfolding read_from read_row row
read_step r w rs most size i before t f ih =
    let long : length (row_bytes r ++ w) ≡ 0 → ⊥ = λ z. let l = row_long r w in omega arith in
    rw (ne_eqb (length (row_bytes r ++ w)) 0 long, take_row_lem r w t, f, ih)

pub read_file : (rs : List Row) (most size i : ℕ) (before : Option Row) → bad_from i before rs ≡ none → length (file_of rs) ≤ most
    → read_from most size i before (file_of rs) ≡ rows rs
unfolding file_of
read_file [] most size i before e l = nothing_read most size i before
read_file (r ∷ rs) zero size i before e l = absurd (let long = row_long r (file_of rs) in omega arith)
read_file (r ∷ rs) (suc most) size i before e l =
    let h = head_good i before r rs e in
    let long = row_long r (file_of rs) in
    let ih = read_file rs most size (i + 1) (some r) h.rest (omega arith) in
    read_step r (file_of rs) rs most size i before h.ranged h.follow ih

pub list_read_back : (rs : List Row) → bad_row rs ≡ none → read_list (file_of rs) ≡ rows rs
unfolding read_list bad_row
list_read_back rs e = read_file rs (length (file_of rs)) (length (file_of rs)) 0 none e (omega arith)

-- ---- read, then written

abbrev is_rows : Reading → Bool
is_rows (bad f) = false
is_rows (rows rs) = true

abbrev rows_of : Reading → List Row
rows_of (bad f) = []
rows_of (rows rs) = rs

-- v is the file of rs, which may be written
abbrev pub Is : (i : ℕ) → Option Row → Bytes → List Row → Type 0
Is i before v rs = (v ≡ file_of rs) × (bad_from i before rs ≡ none)

not_bad : (f : Refusal) (rs : List Row) → bad f ≡ rows rs → ⊥
not_bad f rs e = subst (λ (x : Reading). T (is_rows x)) (sym e) tt

is_nil : (i : ℕ) (before : Option Row) (v : Bytes) (rs : List Row) → length v ≡ 0 → rows [] ≡ rows rs → Is i before v rs
unfolding file_of bad_from
is_nil i before [] rs l e = let z : rs ≡ [] = sym (ap rows_of e) in rw z (refl, refl)
is_nil i before (c ∷ v) rs l e = absurd (omega arith)

-- what is read behind a row
is_cons : (i : ℕ) (before : Option Row) (v w : Bytes) (r : Row) (rest : Reading) (rs : List Row)
    → v ≡ row_bytes r ++ w → T (in_range r) → follows before r ≡ true
    → ((qs : List Row) → rest ≡ rows qs → Is (i + 1) (some r) w qs) → row r rest ≡ rows rs → Is i before v rs
unfolding row
is_cons i before v w r (bad f) rs a t k ih e = absurd (not_bad f rs e)
is_cons i before v w r (rows qs) rs a t k ih e =
    let z : rs ≡ r ∷ qs = sym (ap rows_of e) in
    let h = ih qs refl in
    let bytes : v ≡ file_of (r ∷ qs) = a ∙ ap (λ (u : Bytes). row_bytes r ++ u) h.0 ∙ sym (file_next r qs) in
    rw z (bytes, good_head i before r qs (record { ranged = t; follow = k; rest = h.1 }))

is_row : (i at : ℕ) (before : Option Row) (v : Bytes) (next : Row → Bytes → Reading) (t : Taken Row) (rs : List Row)
    → ((r : Row) (w : Bytes) → t ≡ some (r, w) → (v ≡ row_bytes r ++ w) × T (in_range r))
    → ((r : Row) (w : Bytes) (qs : List Row) → t ≡ some (r, w) → next r w ≡ rows qs → Is (i + 1) (some r) w qs)
    → read_row i at before next t ≡ rows rs → Is i before v rs
unfolding read_row
is_row i at before v next none rs a ih e = absurd (not_bad (refusal_at 21 at) rs e)
is_row i at before v next (some t) rs a ih e = go (follows before t.0) refl
  where
    go : (k : Bool) → follows before t.0 ≡ k → Is i before v rs
    go true k =
        let s = a t.0 t.1 refl in
        is_cons i before v t.1 t.0 (next t.0 t.1) rs s.0 s.1 k (λ qs. ih t.0 t.1 qs refl) (rw k at e)
    go false k = absurd (not_bad (refusal_at 22 i) rs (rw k at e))

pub file_read : (most size i : ℕ) (before : Option Row) (v : Bytes) (rs : List Row) → Small v → length v ≤ most
    → read_from most size i before v ≡ rows rs → Is i before v rs
unfolding read_from
file_read zero size i before v rs h l e = is_nil i before v rs (omega arith) e
file_read (suc most) size i before v rs h l e =
    let ih : (r : Row) (w : Bytes) (qs : List Row) → take_row v ≡ some (r, w) → read_from most size (i + 1) (some r) w ≡ rows qs → Is (i + 1) (some r) w qs =
    λ r w qs k. let s = row_spelled v r w h k in
    file_read most size (i + 1) (some r) w qs (small_behind (row_bytes r) w (subst Small s.0 h))
    (let g = row_long r w in let z = ap {A = Bytes} {B = ℕ} length s.0 in omega arith) in
    go (eqb (length v) 0) refl ih
  where
    go : (z : Bool) → eqb (length v) 0 ≡ z
        → ((r : Row) (w : Bytes) (qs : List Row) → take_row v ≡ some (r, w) → read_from most size (i + 1) (some r) w ≡ rows qs → Is (i + 1) (some r) w qs)
        → Is i before v rs
    go true z ih = is_nil i before v rs (eqb-true (length v) 0 z) (rw z at e)
    go false z ih = is_row i (size - length v) before v (λ r w. read_from most size (i + 1) (some r) w) (take_row v) rs (λ r w. row_spelled v r w h) ih (rw z at e)

pub file_of_list : (v : Bytes) (rs : List Row) → Small v → read_list v ≡ rows rs → (v ≡ file_of rs) × (bad_row rs ≡ none)
unfolding read_list bad_row
file_of_list v rs h e = file_read (length v) (length v) 0 none v rs h (omega arith) e
