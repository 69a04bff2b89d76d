-- `judge_rest` asks for a lost page, then for bit 0, then for the count, as the model does.
use Rattle.faults.proofs.Answers.{told_on}
use Rattle.rest.proofs.Rest.{rest_faulty, rest_unmarked, rest_miscounted, rest_clean}
use Rattle.rest.proofs.judge_rest.Goals as goal

pub returns-in_err-lost_page : goal.returns-in_err-lost_page
returns-in_err-lost_page c = told_on _ _ _ c.from_residual.ensures.1 (search (rest_faulty, c.in_err-lost_page.ensures))

pub returns-then-bit-ne1 : goal.returns-then-bit-ne1
returns-then-bit-ne1 c = search (rest_unmarked, c.in_ok-lost_page.ensures)

pub returns-then-free-zeros : goal.returns-then-free-zeros
returns-then-free-zeros c = search (rest_miscounted, c.in_ok-lost_page.ensures)

pub returns : goal.returns
returns c = search (rest_clean, c.in_ok-lost_page.ensures)
