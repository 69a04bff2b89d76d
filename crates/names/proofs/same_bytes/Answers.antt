-- Names of two lengths differ. Of names of one length the answer so far is that of the bytes up to k, so all are the same exactly if it is yes
-- and those from k on are. No answer names the test of the lengths, so an edit of it is refused for what it then means.
use Rattle.fields.proofs.Plain.{rules, arith}
use Rattle.names.proofs.Steps.{same_on, same_all}
use Rattle.names.proofs.same_bytes.Goals as goal

pub loop-k-preserved : goal.loop-k-preserved
loop-k-preserved c = (omega arith, search rules, search (rules, same_on))

pub returns : goal.returns
returns c = search (rules, same_all)
