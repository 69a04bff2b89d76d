-- The answer so far is that of the pages before p.
use Rattle.fields.proofs.Plain.{arith}
use Rattle.rest2.proofs.Rest.{marked_on, marked_all}
use Rattle.rest2.proofs.are_marked.Goals as goal

pub loop-p-preserved : goal.loop-p-preserved
loop-p-preserved c = (omega arith, search marked_on)

pub returns : goal.returns
returns c = search marked_all
