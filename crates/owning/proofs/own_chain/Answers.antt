-- `own_chain` owns one page a turn, and what is left of the chain is judged as all of it; a page that got its owner lies in the image, so it has a link.
use Rattle.fields.proofs.Plain.{arith, rules, ◌-◌}
use Rattle.faults.proofs.Answers.{told_on}
use Rattle.owning.proofs.Marks.{chained_first, chained_faulty, chained_here, chained_next, chained_last, chained_on}
use Rattle.owning.proofs.own_chain.Goals as goal

pub loop-passed-init : goal.loop-passed-init
loop-passed-init c = search chained_first

pub returns-in_err-own_page : goal.returns-in_err-own_page
returns-in_err-own_page c = told_on _ _ _ c.from_residual.ensures.1 (chained_faulty c.loop-passed.invariant (omega arith) c.in_err-own_page.ensures)

pub link-page-requires : goal.link-page-requires
link-page-requires c = chained_here c.loop-passed.invariant _ c.in_ok-own_page.ensures

pub loop-passed-preserved : goal.loop-passed-preserved
loop-passed-preserved c = search (rules, chained_next)

pub returns-then-page-ne0 : goal.returns-then-page-ne0
returns-then-page-ne0 c = search chained_on

pub returns : goal.returns
returns c = search chained_last
