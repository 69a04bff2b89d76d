-- The code of what tidy answers, which fits.
use Rattle.codes.specs.Codes.{code_of}
use Rattle.c_requests.proofs.Fits.{tidy_fits}
use mathlib.Core.Path.{ap, ◌∙◌}
use Rattle.c_requests.proofs.tidy.Goals as goal

pub tidy_code-requires : goal.tidy_code-requires
tidy_code-requires c =
    let tidy = c in
    let start = tidy in
    rw tidy.tidy.ensures.result_value (tidy_fits start.args.image.now start.args.places.now start.args.target.now)

pub returns : goal.returns
returns c = record { value = c.tidy_code.ensures ∙ ap code_of c.tidy.ensures.result_value; target_after = c.tidy.ensures.target_after }
