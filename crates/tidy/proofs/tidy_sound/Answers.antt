-- The length is asked before the proposal.
use Rattle.moves.proofs.Answers.{tidy_long}
use borrow.Author.Rules.{rules}
use Rattle.tidy.proofs.tidy_sound.Goals as goal

pub returns-then-target-image : goal.returns-then-target-image
returns-then-target-image c =
    let whole = tidy_long _ _ _ c.requires.is_sound c.if-target-image.true in
    record { result_value = whole.0; target_after = whole.1 }

pub returns : goal.returns
returns c = record { result_value = search rules; target_after = search rules }
