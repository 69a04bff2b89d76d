-- `judge_all` is the walk, and then the rest.
use Rattle.fields.proofs.Plain.{◌∙◌}
use Rattle.faults.proofs.Answers.{told_on}
use Rattle.judge2.proofs.Cursors.{ready}
use Rattle.judge2.proofs.Image.{marks_each, walk_faulty, walk_clean}
use Rattle.judge2.proofs.judge_all.Goals as goal

pub returns-in_err-own_pages : goal.returns-in_err-own_pages
returns-in_err-own_pages c = told_on _ _ _ c.from_residual.ensures.1 (walk_faulty _ c.in_err-own_pages.ensures)

pub judge_rest-requires : goal.judge_rest-requires
judge_rest-requires c = let pre = c.requires in ready pre.0 (c.own_pages.auto.marks ∙ marks_each _ pre.1)

pub returns : goal.returns
returns c = search (walk_clean, c.in_ok-own_pages.ensures)
