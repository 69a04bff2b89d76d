use Rattle.fields.proofs.Plain.{◌-◌}
use Rattle.occupied2.specs.Passing.{is_free, Searching}
use Rattle.occupied2.proofs.occupied_number.Given as goal

abbrev pub invariant-loop-k : goal.invariant-loop-k
invariant-loop-k l = Searching (is_free l.image) l.start l.number l.count l.passed → Searching (is_free l.image) l.start l.number l.count l.k

abbrev pub decreases-loop-k : goal.decreases-loop-k
decreases-loop-k l = l.count - l.k
