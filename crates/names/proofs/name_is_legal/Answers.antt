-- The answer so far is that of the bytes up to k, so the name is legal exactly if it is yes, those from k on may follow, and the first is no zero.
use Rattle.fields.proofs.Plain.{arith}
use Rattle.names.proofs.Legal.{follow_first, follow_on, follow_all}
use Rattle.names.proofs.name_is_legal.Goals as goal

pub loop-k-init : goal.loop-k-init
loop-k-init c = (omega arith, follow_first _ _)

pub loop-k-preserved : goal.loop-k-preserved
loop-k-preserved c = (omega arith, search follow_on)

pub returns : goal.returns
returns c = search follow_all
