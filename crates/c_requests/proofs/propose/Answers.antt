-- The code of what propose answers, which fits.
use Rattle.codes.specs.Codes.{code_of}
use Rattle.c_requests.proofs.Fits.{propose_fits}
use mathlib.Core.Path.{ap, ◌∙◌}
use Rattle.c_requests.proofs.propose.Goals as goal

pub tidy_code-requires : goal.tidy_code-requires
tidy_code-requires c =
    let propose = c in
    let start = propose in
    rw propose.propose.ensures.result_value (propose_fits start.args.image.now start.args.places.now)

pub returns : goal.returns
returns c = record { value = c.tidy_code.ensures ∙ ap code_of c.propose.ensures.result_value; places_after = c.propose.ensures.places_after }
