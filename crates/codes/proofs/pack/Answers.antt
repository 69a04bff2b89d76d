-- Three numbers of 16 bits stand side by side.
use Rattle.fields.proofs.Plain.{arith}
use Rattle.codes.specs.Codes.{packed}
use Rattle.codes.proofs.pack.Goals as goal

pub returns : goal.returns
unfolding packed
returns c = omega arith
