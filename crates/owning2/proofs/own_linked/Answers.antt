-- `own_linked` owns one page a turn, and what is left of the pages is judged as all of them.
use Rattle.faults.proofs.Answers.{told_on}
use Rattle.owning2.proofs.Owning.{owning_first, owning_faulty, owning_link, owning_end, owning_next, owning_none}
use Rattle.owning2.proofs.own_linked.Goals as goal

pub loop-passed-init : goal.loop-passed-init
loop-passed-init c = search owning_first

pub returns-in_err-own_page : goal.returns-in_err-own_page
returns-in_err-own_page c = told_on _ _ _ c.from_residual.ensures.1 (owning_faulty c.loop-passed.invariant c.loop-passed-test.true c.in_err-own_page.ensures)

pub link-page-requires : goal.link-page-requires
link-page-requires c = owning_link c.loop-passed.invariant _ c.in_ok-own_page.ensures

pub returns-then-page-eq0 : goal.returns-then-page-eq0
returns-then-page-eq0 c =
    owning_end c.loop-passed.invariant _ c.in_ok-own_page.ensures c.loop-passed-test.true _ c.link-page.ensures c.if-page-eq0.true

pub loop-passed-preserved : goal.loop-passed-preserved
loop-passed-preserved c =
    owning_next c.loop-passed.invariant _ c.in_ok-own_page.ensures c.loop-passed-test.true _ c.link-page.ensures c.if-page-eq0.false c.own_page.auto.marks

pub returns : goal.returns
returns c = owning_none c.loop-passed.invariant c.loop-passed-test.false
