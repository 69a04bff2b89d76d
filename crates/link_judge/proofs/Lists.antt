-- A list to be written, a row at a time: the first fault is kept once it is told, and a row that passes is the one that the next must be above.
use mathlib.Core.Path.{◌≡◌, refl, sym, ap, ◌∙◌}
use mathlib.Core.Bool.{Bool, true, false}
use mathlib.Core.Option.{some}
use Prim.Native.Nat.{ℕ, suc, ◌+◌, ◌-◌, ◌/◌, ◌≤◌, ◌<◌}
use native.Mathlib.Omega.{arith}
use mathlib.Core.List.{List, [], ◌∷◌}
use lib.ListN.{length}
use Rattle.std.specs.Prelude.{if◌then◌else◌, Some, None, is_some, Option}
use Rattle.model.specs.Call.{refusal_at}
use Rattle.link_list.specs.declared.Row.{Row}
use Rattle.link_list.specs.Coding.{in_range}
use Rattle.link_list.specs.Judging.{follows, bad_from, bad_row}
use Rattle.link_judge.specs.declared.Judged.{Judged}
use Rattle.link_judge.specs.declared.RowFault.TheVariants.{Broken, NotAbove}
use Rattle.link_judge.specs.Judged.{before_of, unjudged, judged_next, judged_from, judged_told, row_numbered, rows_from, rows_of}
use Rattle.link_judge.proofs.Orders.{judged_stays, judged_range, judged_order, judged_good}

-- ---- rows of numbers

one_row : (ns : List ℕ) (left i : ℕ) → 0 < left → rows_from ns left i ≡ row_numbered ns i ∷ rows_from ns (left - 1) (i + 1)
unfolding rows_from
one_row ns left i h = let e : left ≡ suc (left - 1) = omega arith in ap (λ (k : ℕ). rows_from ns k i) e

pub next_row : (ns : List ℕ) (rows i : ℕ) → i < rows → rows_from ns (rows - i) i ≡ row_numbered ns i ∷ rows_from ns (rows - (i + 1)) (i + 1)
next_row ns rows i h = let e : rows - i - 1 ≡ rows - (i + 1) = omega arith in one_row ns (rows - i) i (omega arith) ∙ ap (λ (k : ℕ). row_numbered ns i ∷ rows_from ns k (i + 1)) e

pub last_row : (ns : List ℕ) (rows i : ℕ) → rows ≤ i → rows_from ns (rows - i) i ≡ []
unfolding rows_from
last_row ns rows i h = let e : rows - i ≡ 0 = omega arith in rw e

pub first_row_lem : (ns : List ℕ) → rows_from ns (length ns / 3 - 0) 0 ≡ rows_of ns
unfolding rows_of
first_row_lem ns = let e : length ns / 3 - 0 ≡ length ns / 3 = omega arith in ap (λ (k : ℕ). rows_from ns k 0) e

-- ---- judging

pub judged_first : (ns : List ℕ) (j : Judged) → j ≡ unjudged → judged_from 0 j (rows_from ns (length ns / 3 - 0) 0) ≡ judged_from 0 unjudged (rows_of ns)
judged_first ns j e = ap (λ (k : Judged). judged_from 0 k (rows_from ns (length ns / 3 - 0) 0)) e ∙ ap (judged_from 0 unjudged) (first_row_lem ns)

pub judged_turn : (ns : List ℕ) (rows i : ℕ) (j k : Judged) (r : Row) → i < rows → r ≡ row_numbered ns i → k ≡ judged_next j i r
    → judged_from i j (rows_from ns (rows - i) i) ≡ judged_from (i + 1) k (rows_from ns (rows - (i + 1)) (i + 1))
unfolding judged_from
judged_turn ns rows i j k r h e f =
    ap (judged_from i j) (next_row ns rows i h)
    ∙ ap (λ (q : Judged). judged_from (i + 1) q (rows_from ns (rows - (i + 1)) (i + 1))) (ap (judged_next j i) (sym e) ∙ sym f)

pub judged_end : (ns : List ℕ) (rows i : ℕ) (j : Judged) → rows ≤ i → judged_from i j (rows_from ns (rows - i) i) ≡ j
unfolding judged_from
judged_end ns rows i j h = ap (judged_from i j) (last_row ns rows i h)

-- a fault stays
judged_kept : (i : ℕ) (j : Judged) (rs : List Row) → is_some j.fault ≡ true → judged_from i j rs ≡ j
unfolding judged_from
judged_kept i j [] h = refl
judged_kept i j (r ∷ rs) h = ap (λ (k : Judged). judged_from (i + 1) k rs) (judged_stays j i r h) ∙ judged_kept (i + 1) j rs h

judged_from_lem : (i : ℕ) (last : Option Row) (rs : List Row) → judged_told (judged_from i (record { fault = None; last = last }) rs) ≡ bad_from i (before_of last) rs
unfolding judged_from bad_from
judged_from_lem i last [] = refl
judged_from_lem i last (r ∷ rs) = go (in_range r) (follows (before_of last) r) refl refl (judged_from_lem (i + 1) (Some r) rs)
  where
    j : Judged
    j = record { fault = None; last = last }

    broken : Judged
    broken = record { fault = Some (Broken i); last = last }

    low : Judged
    low = record { fault = Some (NotAbove i); last = last }

    go : (a b : Bool) → in_range r ≡ a → follows (before_of last) r ≡ b
        → judged_told (judged_from (i + 1) (record { fault = None; last = Some r }) rs) ≡ bad_from (i + 1) (some r) rs
        → judged_told (judged_from (i + 1) (judged_next j i r) rs)
        ≡ (if in_range r then (if follows (before_of last) r then bad_from (i + 1) (some r) rs else some (refusal_at 22 i)) else some (refusal_at 21 i))
    go false b x y ih = ap (λ (k : Judged). judged_told (judged_from (i + 1) k rs)) (judged_range j i r refl x) ∙ ap judged_told (judged_kept (i + 1) broken rs refl) ∙ rw x
    go true false x y ih = ap (λ (k : Judged). judged_told (judged_from (i + 1) k rs)) (judged_order j i r refl x y) ∙ ap judged_told (judged_kept (i + 1) low rs refl) ∙ rw (x, y)
    go true true x y ih = ap (λ (k : Judged). judged_told (judged_from (i + 1) k rs)) (judged_good j i r refl x y) ∙ ih ∙ rw (x, y)

pub judged_bad : (rs : List Row) → judged_told (judged_from 0 unjudged rs) ≡ bad_row rs
unfolding bad_row
judged_bad rs = judged_from_lem 0 None rs
