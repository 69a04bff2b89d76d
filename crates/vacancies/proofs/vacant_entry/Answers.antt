-- `vacant_entry` passes an occupied entry a turn, so the first vacant one that it comes to is the lowest.
use mathlib.Core.Option.{some}
use Rattle.fields.proofs.Searches.{sought_first, sought_here, sought_next, sought_none}
use Rattle.fields.proofs.Plain.{arith, sym, ap, ◌∙◌}
use Rattle.vacancies.proofs.vacant_entry.Goals as goal

pub loop-lowest-init : goal.loop-lowest-init
loop-lowest-init c = (c.entry_count-lowest-end.ensures, sought_first)

pub returns-then-is_vacant : goal.returns-then-is_vacant
returns-then-is_vacant c =
    let turn = c in
    let place = c.entry_position-at.ensures in
    let inv = turn.loop-lowest.invariant in (
      omega (arith, place.1, turn.requires),
      ap some place.0 ∙ sought_here inv.1
          (omega (arith, turn.loop-lowest-test.true, inv.0)) (rw place.0 at (sym c.is_vacant.ensures ∙ c.if-is_vacant.true)),
    )

pub loop-lowest-preserved : goal.loop-lowest-preserved
loop-lowest-preserved c =
    let place = c.entry_position-at.ensures in
    let inv = c.loop-lowest.invariant in (
      inv.0,
      sought_next inv.1 (omega (arith, c.loop-lowest-test.true, inv.0))
          (rw place.0 at (sym c.is_vacant.ensures ∙ c.if-is_vacant.false)),
    )

pub returns : goal.returns
returns c = (tt, sought_none c.loop-lowest.invariant.1 (omega arith))
