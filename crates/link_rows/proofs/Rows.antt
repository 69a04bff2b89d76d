-- A row, a number at a time, and the step to the next one.
use mathlib.Core.Path.{◌≡◌, sym, ap, ◌∙◌}
use mathlib.Core.Bool.{Bool, true, false, not}
use mathlib.Core.Option.{none, some}
use Prim.Native.Nat.{ℕ, ◌-◌, ◌≤◌}
use native.Mathlib.Omega.{arith}
use lib.ListN.{length, drop, length-drop}
use borrow.Author.Tests.{not-true, not-false}
use Rattle.std.specs.Prelude.{Option, Some, None}
use Rattle.std.specs.Option.{unwrap_or}
use Rattle.volume.specs.Bytes.{Bytes}
use Rattle.link_list.specs.declared.Row.{Row}
use Rattle.link_list.specs.Coding.{Taken, take_number, in_range, and_then, kept, take_row}
use Rattle.link_numbers.specs.declared.Number.{Number}
use Rattle.link_judge.specs.Judged.{no_row}
use Rattle.link_rows.specs.declared.Step.{Step}
use Rattle.link_rows.specs.Told.{row_told, RowFits, step_of, step_at}

abbrev Says : Bytes → Taken Row → Option Step → Type 0
Says v x r = (row_told v r ≡ x) × RowFits v r

-- ---- a row, whose numbers were read from v

-- three numbers stand at the front of w, and what is behind them is v from a byte on
pub record Three (v w : Bytes) (count value figure next : ℕ) : Type 0 where
  pub n : ℕ
  pub n₂ : ℕ
  pub counted : take_number 8 w ≡ some (count, drop n v)
  pub valued : take_number 8 (drop n v) ≡ some (value, drop n₂ v)
  pub figured : take_number 8 (drop n₂ v) ≡ some (figure, drop next v)
  pub inside : next ≤ length v

module _ (v w : Bytes) where
  pub row_none : none ≡ take_number 8 w → none ≡ take_row w
  unfolding take_row and_then
  row_none e = sym (rw (sym e))

  module _ (a : Number) (e : some (a.value, drop a.next v) ≡ take_number 8 w) where
    pub row_counted : none ≡ take_number 8 (drop a.next v) → none ≡ take_row w
    unfolding take_row and_then
    row_counted f = sym (rw (sym e, sym f))

    module _ (b : Number) (f : some (b.value, drop b.next v) ≡ take_number 8 (drop a.next v)) where
      pub row_valued : none ≡ take_number 8 (drop b.next v) → none ≡ take_row w
      unfolding take_row and_then
      row_valued g = sym (rw (sym e, sym f, sym g))

      pub three_read : {c : Number} → some (c.value, drop c.next v) ≡ take_number 8 (drop b.next v) → c.next ≤ length v → Three v w a.value b.value c.value c.next
      three_read g l = record { n = a.next; n₂ = b.next; counted = sym e; valued = sym f; figured = sym g; inside = l }

module _ {v w : Bytes} {count value figure next : ℕ} (three : Three v w count value figure next) {t : Bool} (tested : t ≡ in_range (record { count = count; value = value; figure = figure })) where
  pub row_out : not t ≡ true → none ≡ take_row w
  unfolding take_row and_then kept
  row_out h = sym (rw (three.counted, three.valued, three.figured, sym tested ∙ not-true t h))

  pub row_in : not t ≡ false → (some (record { count = count; value = value; figure = figure }, drop next v) ≡ take_row w) × (next ≤ length v)
  unfolding take_row and_then kept
  row_in h = (sym (rw (three.counted, three.valued, three.figured, sym tested ∙ not-false t h)), three.inside)

-- ---- a step

pub step_from : (v : Bytes) (at : ℕ) (a : Option Step) → Says v (take_row (drop at v)) a → unwrap_or a (record { row = no_row; next = at }) ≡ step_at v at
unfolding step_at step_of
step_from v at (Some s) h =
    let back : length v - (length v - s.next) ≡ s.next = let inside = h.1 in omega arith in
    sym (ap (step_of v at) (sym h.0) ∙ rw (length-drop s.next v, back))
step_from v at None h = sym (ap (step_of v at) (sym h.0))
