-- The quotient rounded up is the definition's.
use Rattle.fields.proofs.Plain.{arith}
use Rattle.model2.specs.Layout.{pages_for}
use Rattle.fields2.proofs.pages_for.Goals as goal

pub returns : goal.returns
unfolding pages_for
returns c = omega arith
