use Rattle.fields.proofs.Plain.{◌≡◌, ◌&&◌, ◌-◌, ◌≤◌, length, drop}
use Rattle.volume.specs.Bytes.{same}
use Rattle.names.proofs.same_bytes.Given as goal

abbrev pub invariant-loop-k : goal.invariant-loop-k
invariant-loop-k l = (l.k ≤ length l.a) × (length l.a ≡ length l.b) × (same l.a l.b ≡ (l.equal && same (drop l.k l.a) (drop l.k l.b)))

abbrev pub decreases-loop-k : goal.decreases-loop-k
decreases-loop-k l = length l.a - l.k
