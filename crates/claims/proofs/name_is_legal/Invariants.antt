use Rattle.fields.proofs.Plain.{◌-◌}
use Rattle.claims.proofs.Legal.{Behind}
use Rattle.claims.proofs.name_is_legal.Given as goal

abbrev pub invariant-loop-k : goal.invariant-loop-k
invariant-loop-k l = Behind l.image l.at (l.k - 1) l.zeros l.legal
