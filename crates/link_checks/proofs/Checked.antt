-- The rows of a file that was read are in range, and a checking asks them one after another: the first without a file is told.
use mathlib.Core.Path.{◌≡◌, refl, sym, ap, ◌∙◌, subst}
use Prim.Native.Nat.{ℕ, zero, suc, ◌+◌, ◌-◌, ◌≤◌, ◌<◌}
use native.Mathlib.Omega.{arith}
use mathlib.Core.Bool.{Bool, true, false}
use mathlib.Core.Option.{Option, none, some, some-injective, none-ne-some}
use mathlib.Core.List.{List, [], ◌∷◌}
use lib.ListN.{length}
use lib.Dec.{T, eqb}
use Rattle.volume.specs.Bytes.{Bytes}
use Rattle.std.specs.Prelude.{if◌then◌else◌}
use Rattle.volume.specs.Lists.{all}
use Rattle.volume.proofs.Tests.{and_both, both_and}
use Rattle.model.specs.Image.{tree_of}
use Rattle.model.specs.Call.{Refusal, refusal_at, Answer, refused, granted}
use Rattle.model.specs.Refusal.{settle}
use Rattle.link_list.specs.declared.Row.{Row}
use Rattle.link_list.specs.Coding.{Taken, take_number, in_range, and_then, kept, take_row, accession}
use Rattle.link_list.specs.Judging.{follows, Reading, bad, rows, row, read_row, read_from, read_list}
use Rattle.link_list.specs.Links.{rows_in, node_in, is_file_there, bad_line, record_lines}
use Rattle.link_list.proofs.Rows.{holds, held}
use Rattle.link_rows.specs.declared.Step.{Step}
use Rattle.link_rows.specs.Told.{step_at, steps_from, counted}
use Rattle.link_rows.proofs.Readings.{steps_read, reading_rows, reading_bad}
use Rattle.link_checks.specs.Checks.{checked_rows, check_in}

-- ---- rows that are read are in range

and_then_lem : {A : Type 0} (t : Taken A) (f : A → Bytes → Taken Row) (x : Row × Bytes) → and_then t f ≡ some x → (y : A) × (w : Bytes) × (f y w ≡ some x)
unfolding and_then
and_then_lem none f x e = absurd (none-ne-some x e)
and_then_lem (some t) f x e = (t.0, t.1, e)

kept_ranged : (q : Row) (v : Bytes) (x : Row × Bytes) → kept q v ≡ some x → T (in_range x.0)
unfolding kept
kept_ranged q v x e = go (in_range q) refl e
  where
    go : (z : Bool) → in_range q ≡ z → if◌then◌else◌ {A = Taken Row} z (some (q, v)) none ≡ some x → T (in_range x.0)
    go true z u = subst (λ (y : Row × Bytes). T (in_range y.0)) (some-injective (q, v) x u) (held (in_range q) z)
    go false z u = absurd (none-ne-some x u)

row_ranged : (v : Bytes) (x : Row × Bytes) → take_row v ≡ some x → T (in_range x.0)
unfolding take_row
row_ranged v x e =
    let a = and_then_lem (take_number 8 v) _ x e in
    let b = and_then_lem (take_number 8 a.1) _ x a.2 in
    let c = and_then_lem (take_number 8 b.1) _ x b.2 in
    kept_ranged (record { count = a.0; value = b.0; figure = c.0 }) c.1 x c.2

rows_or : Reading → List Row
rows_or (bad f) = []
rows_or (rows rs) = rs

is_rows : Reading → Bool
is_rows (bad f) = false
is_rows (rows rs) = true

bad_not : (f : Refusal) (rs : List Row) → bad f ≡ rows rs → ⊥
unfolding is_rows
bad_not f rs e = subst (λ (x : Reading). T (is_rows x)) (sym e) tt

cons_ranged : (r : Row) (rest : Reading) (rs : List Row) → T (in_range r) → ((qs : List Row) → rest ≡ rows qs → T (all in_range qs)) → row r rest ≡ rows rs → T (all in_range rs)
unfolding row all rows_or
cons_ranged r (bad f) rs h k e = absurd (bad_not f rs e)
cons_ranged r (rows qs) rs h k e = let z : r ∷ qs ≡ rs = ap rows_or e in subst (λ (xs : List Row). T (all in_range xs)) z (both_and (in_range r) (all in_range qs) h (k qs refl))

from_ranged : (most size i : ℕ) (before : Option Row) (v : Bytes) (rs : List Row) → read_from most size i before v ≡ rows rs → T (all in_range rs)
unfolding read_from read_row all rows_or
from_ranged zero size i before v rs e = let z : [] ≡ rs = ap rows_or e in subst (λ (xs : List Row). T (all in_range xs)) z tt
from_ranged (suc most) size i before v rs e = go (eqb (length v) 0) (take_row v) refl (λ r w. from_ranged most size (i + 1) (some r) w) e
  where
    stands : (c : Bool) (t : Row × Bytes) → take_row v ≡ some t → ((r : Row) (w : Bytes) (qs : List Row) → read_from most size (i + 1) (some r) w ≡ rows qs → T (all in_range qs))
        → (if c then row t.0 (read_from most size (i + 1) (some t.0) t.1) else bad (refusal_at 22 i)) ≡ rows rs → T (all in_range rs)
    stands true t k ih u = cons_ranged t.0 (read_from most size (i + 1) (some t.0) t.1) rs (row_ranged v t k) (ih t.0 t.1) u
    stands false t k ih u = absurd (bad_not (refusal_at 22 i) rs u)

    taken : (o : Taken Row) → take_row v ≡ o → ((r : Row) (w : Bytes) (qs : List Row) → read_from most size (i + 1) (some r) w ≡ rows qs → T (all in_range qs))
        → read_row i (size - length v) before (λ r rest. read_from most size (i + 1) (some r) rest) o ≡ rows rs → T (all in_range rs)
    taken none k ih u = absurd (bad_not (refusal_at 21 (size - length v)) rs u)
    taken (some t) k ih u = stands (follows before t.0) t k ih u

    go : (z : Bool) (o : Taken Row) → take_row v ≡ o → ((r : Row) (w : Bytes) (qs : List Row) → read_from most size (i + 1) (some r) w ≡ rows qs → T (all in_range qs))
        → (if z then rows [] else read_row i (size - length v) before (λ r rest. read_from most size (i + 1) (some r) rest) o) ≡ rows rs → T (all in_range rs)
    go true o k ih u = let z : [] ≡ rs = ap rows_or u in subst (λ (xs : List Row). T (all in_range xs)) z tt
    go false o k ih u = taken o k ih u

-- ---- a file's rows by its steps

module _ (v : Bytes) (n : ℕ) (e : granted n ≡ counted 0 (read_list v)) where
  steps_are : (rs : List Row) × (read_list v ≡ rows rs) × (steps_from v n 0 ≡ rs)
  steps_are = let r = reading_rows (read_list v) n e in (r.0, r.1, ap (λ (k : ℕ). steps_from v k 0) r.2 ∙ steps_read v r.0 r.1)

  pub steps_ranged : all in_range (steps_from v n 0) ≡ true
  unfolding read_list
  steps_ranged =
      let s = steps_are in
      ap (all in_range) s.2 ∙ holds (all in_range s.0) (from_ranged (length v) (length v) 0 none v s.0 s.1)

  pub rows_checked : (d b : Bytes) (x : Answer (Unit {0})) → x ≡ checked_rows 0 d b (steps_from v n 0) → x ≡ check_in v d b
  unfolding check_in bad_line rows_in settle
  rows_checked d b x q = let s = steps_are in rw s.1 (q ∙ ap (checked_rows 0 d b) s.2)

pub bad_checked : (v d b : Bytes) (f : Refusal) → refused f ≡ counted 0 (read_list v) → refused f ≡ check_in v d b
unfolding check_in bad_line settle
bad_checked v d b f e = rw (reading_bad (read_list v) f e) refl

-- ---- a row at a time

next_step : (v : Bytes) (total i at : ℕ) (s : Step) → s ≡ step_at v at → i < total → steps_from v (total - i) at ≡ s.row ∷ steps_from v (total - (i + 1)) s.next
unfolding steps_from
next_step v total i at s e h = let q : total - i ≡ suc (total - (i + 1)) = omega arith in ap (λ (n : ℕ). steps_from v n at) q ∙ rw e

module _ (v d b : Bytes) (total i at : ℕ) where
  pub checked_end : total ≤ i → checked_rows i d b (steps_from v (total - i) at) ≡ granted tt
  unfolding checked_rows record_lines steps_from settle
  checked_end h = let q : total - i ≡ 0 = omega arith in rw q

  module _ (s : Step) (e : s ≡ step_at v at) (h : i < total) where
    pub next_ranged : all in_range (steps_from v (total - i) at) ≡ true → (in_range s.row ≡ true) × (all in_range (steps_from v (total - (i + 1)) s.next) ≡ true)
    unfolding all
    next_ranged u =
        let two = and_both (in_range s.row) (all in_range (steps_from v (total - (i + 1)) s.next)) (held _ (sym (ap (all in_range) (next_step v total i at s e h)) ∙ u)) in
        (holds (in_range s.row) two.0, holds (all in_range (steps_from v (total - (i + 1)) s.next)) two.1)

    module _ (c : Bool) (q : c ≡ is_file_there (node_in d (accession s.row.count s.row.value) (tree_of b))) where
      pub checked_no : c ≡ false → checked_rows i d b (steps_from v (total - i) at) ≡ refused (refusal_at 23 i)
      unfolding checked_rows record_lines settle
      checked_no z = ap (checked_rows i d b) (next_step v total i at s e h) ∙ rw (sym q ∙ z)

      pub checked_yes : c ≡ true → checked_rows i d b (steps_from v (total - i) at) ≡ checked_rows (i + 1) d b (steps_from v (total - (i + 1)) s.next)
      unfolding checked_rows record_lines settle
      checked_yes z = ap (checked_rows i d b) (next_step v total i at s e h) ∙ rw (sym q ∙ z)

pub checked_first : (v d b : Bytes) (total : ℕ) → (all in_range (steps_from v (total - 0) 0) ≡ all in_range (steps_from v total 0)) × (checked_rows 0 d b (steps_from v (total - 0) 0) ≡ checked_rows 0 d b (steps_from v total 0))
checked_first v d b total = let q : total - 0 ≡ total = omega arith in rw q (refl, refl)
