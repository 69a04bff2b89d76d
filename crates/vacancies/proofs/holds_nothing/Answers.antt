-- `holds_nothing` passes a vacant entry a turn, and an occupied one settles the answer.
use Rattle.fields.proofs.Searches.{tested_first, tested_failed, tested_next, tested_all}
use Rattle.fields.proofs.Plain.{arith, told, untold}
use Rattle.vacancies.proofs.holds_nothing.Goals as goal

pub loop-i-init : goal.loop-i-init
loop-i-init c = (c.entry_count-i-end.ensures, tested_first)

pub returns-then-not-is_vacant : goal.returns-then-not-is_vacant
returns-then-not-is_vacant c =
    let place = c.entry_position-at.ensures in
    let inv = c.loop-i.invariant in
    tested_failed inv.1 (omega (arith, c.loop-i-test.true, inv.0))
    (rw place.0 at (untold c.is_vacant.ensures c.if-not-is_vacant.true-raw))

pub loop-i-preserved : goal.loop-i-preserved
loop-i-preserved c =
    let place = c.entry_position-at.ensures in
    let inv = c.loop-i.invariant in (
      inv.0,
      tested_next inv.1 (omega (arith, c.loop-i-test.true, inv.0))
          (rw place.0 at (told c.is_vacant.ensures c.if-not-is_vacant.false-raw)),
    )

pub returns : goal.returns
returns c = tested_all c.loop-i.invariant.1 (omega arith)
