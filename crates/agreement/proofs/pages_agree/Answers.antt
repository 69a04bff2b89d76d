-- `pages_agree` looks at one page a turn.
use Rattle.fields.proofs.Plain.{arith}
use Rattle.agreement.proofs.Marks.{all_first, all_stop, all_go, all_done}
use Rattle.agreement.proofs.pages_agree.Goals as goal

pub loop-p-init : goal.loop-p-init
loop-p-init c = search all_first

pub page_agrees-requires : goal.page_agrees-requires
page_agrees-requires c = (c.requires.0, omega arith, c.requires.1)

pub returns-then-not-page_agrees : goal.returns-then-not-page_agrees
returns-then-not-page_agrees c = search all_stop

pub loop-p-preserved : goal.loop-p-preserved
loop-p-preserved c = search all_go

pub returns : goal.returns
returns c = search all_done
