-- Each test is one of a legal byte's conditions, and the first that fails decides.
use Rattle.fields.proofs.Plain.{tests}
use Rattle.volume.specs.Lists.{all}
use Rattle.model.specs.Name.{legal_byte}
use Rattle.names.proofs.legal_byte.Goals as goal

pub returns-then-c-lt32 : goal.returns-then-c-lt32
unfolding legal_byte all
returns-then-c-lt32 c = search tests

pub returns-then-c-gt126 : goal.returns-then-c-gt126
unfolding legal_byte all
returns-then-c-gt126 c = search tests

pub returns : goal.returns
unfolding legal_byte all
returns c = search tests
