-- The tests of the code are those of the definition, in its order.
use Rattle.fields.proofs.Plain.{refl}
use Rattle.names.proofs.Legal.{follow_tests}
use Rattle.names.proofs.may_follow.Goals as goal

pub returns : goal.returns
returns c = follow_tests _ _ _ refl
