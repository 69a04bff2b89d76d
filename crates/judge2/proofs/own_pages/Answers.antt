-- `own_pages` gives the root's own pages their owner and then judges the root, from marks of no owner.
use Rattle.fields.proofs.Plain.{◌∙◌}
use Rattle.faults.proofs.Answers.{told_on}
use Rattle.judge2.proofs.Cursors.{ready}
use Rattle.judge2.proofs.Image.{marks_each, root_faulty, root_inside, root_clean}
use Rattle.judge2.proofs.own_pages.Goals as goal

pub own_root-requires : goal.own_root-requires
own_root-requires c = let pre = c.requires in ready pre.0 (marks_each _ pre.1)

pub returns-in_err-own_root : goal.returns-in_err-own_root
returns-in_err-own_root c = let pre = c.requires in told_on _ _ _ c.from_residual.ensures.1 (root_faulty pre.0 pre.1 c.in_err-own_root.ensures)

pub judge_directory-requires : goal.judge_directory-requires
judge_directory-requires c =
    let pre = c.requires in (
      pre.0.allowed,
      c.own_root.auto.marks ∙ marks_each _ pre.1 ∙ pre.0.count,
      root_inside pre.0 pre.1 _ c.in_ok-own_root.ensures,
    )

pub returns : goal.returns
returns c = let pre = c.requires in root_clean pre.0 pre.1 _ c.in_ok-own_root.ensures _ c.judge_directory.ensures
