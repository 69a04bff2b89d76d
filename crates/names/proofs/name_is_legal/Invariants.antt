use Rattle.fields.proofs.Plain.{◌≡◌, ◌&&◌, ◌+◌, ◌-◌, ◌≤◌}
use Rattle.names.proofs.Legal.{follow}
use Rattle.names.proofs.name_is_legal.Given as goal

abbrev pub invariant-loop-k : goal.invariant-loop-k
invariant-loop-k l = (l.k ≤ 16) × (follow l.image l.at 16 ≡ (l.legal && follow l.image (l.at + l.k) (16 - l.k)))

abbrev pub decreases-loop-k : goal.decreases-loop-k
decreases-loop-k l = 16 - l.k
