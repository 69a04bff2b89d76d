-- `count_nobodies` adds one page a turn; the count never passes the pages seen.
use Rattle.fields.proofs.Plain.{arith, refl, ◌∙◌}
use Rattle.agreement.specs.Marked.{nobodies}
use Rattle.agreement.proofs.Marks.{nobodies_next, nobody}
use Rattle.agreement.proofs.count_nobodies.Goals as goal

pub loop-owner-init : goal.loop-owner-init
unfolding nobodies
loop-owner-init c = (omega arith, refl)

pub loop-owner-preserved : goal.loop-owner-preserved
loop-owner-preserved c =
    let one = c.from-count.ensures ∙ nobody _ in (omega arith, rw (nobodies_next _ _, ← c.loop-owner.invariant.1, one))
