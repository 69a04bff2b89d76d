-- `tidy` asks the verdict, and passes on what it refuses an image that is not sound with.
use Rattle.moves.proofs.Answers.{tidy_stops}
use Rattle.outcomes.proofs.Exits.{told_on}
use mathlib.Core.Path.{sym}
use Rattle.tidy.proofs.Told.{unnamed}
use Rattle.tidy.proofs.tidy.Goals as goal

pub tidy_owned-requires : goal.tidy_owned-requires
tidy_owned-requires c = unnamed _ c.in_ok-verdict.ensures

pub returns-in_err-verdict : goal.returns-in_err-verdict
returns-in_err-verdict c =
    let whole = tidy_stops _ _ _ (sym c.in_err-verdict.ensures) in
    record { result_value = told_on _ _ _ _ c.from_residual.ensures.1 whole.0; target_after = whole.1 }
