-- `judge_all` is the walk, and then the rest.
use Rattle.faults.proofs.Answers.{told_on}
use Rattle.judge.proofs.Image.{walk_faulty, walk_clean}
use Rattle.judge.proofs.judge_all.Goals as goal

pub returns-in_err-own_pages : goal.returns-in_err-own_pages
returns-in_err-own_pages c = told_on _ _ _ c.from_residual.ensures.1 (walk_faulty _ c.in_err-own_pages.ensures)

pub returns : goal.returns
returns c = search (walk_clean, c.in_ok-own_pages.ensures)
