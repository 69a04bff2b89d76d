-- `own_pages` judges the root from marks of no owner.
use Rattle.fields.proofs.Plain.{arith}
use Rattle.judge.proofs.Image.{judge_root}
use Rattle.judge.proofs.own_pages.Goals as goal

pub returns : goal.returns
returns c =
    let root = c in
    judge_root _ _ _ (omega arith) root.requires.1 (λ f h. root.judge_directory.ensures f h)
