-- Rounding a quotient up adds one exactly if something is left, and nothing at all rounds to 1.
use Rattle.fields.proofs.Plain.{arith}
use Rattle.model.specs.Layout.{pages_for}
use Rattle.fields.proofs.pages_for.Goals as goal

pub returns : goal.returns
unfolding pages_for
returns c = omega arith
