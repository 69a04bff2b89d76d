-- The answer so far is that of the marks read of the eight, so all are owned exactly if it is yes and those from there on are.
use Rattle.fields.proofs.Plain.{rules, arith}
use Rattle.lost.proofs.Owned.{none_yet, owned_read, owned_all}
use Rattle.lost.proofs.eight_are_owned.Goals as goal

pub loop-mark-init : goal.loop-mark-init
loop-mark-init c = (omega arith, none_yet _ _)

pub loop-mark-preserved : goal.loop-mark-preserved
loop-mark-preserved c = (omega arith, owned_read _ _ _ _ c.loop-mark.invariant.1 _ (omega arith) (omega arith))

pub returns : goal.returns
returns c = search (rules, owned_all)
