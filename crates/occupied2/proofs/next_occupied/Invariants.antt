use Rattle.occupied2.specs.Passing.{is_free}
use Rattle.occupied2.proofs.Walking.{Passing}
use Rattle.occupied2.proofs.next_occupied.Given as goal

abbrev pub invariant-loop-shape : goal.invariant-loop-shape
invariant-loop-shape l = Passing (is_free l.image) l.shape l.pages l.image l.initial.here l.number l.here l.passed

abbrev pub decreases-loop-shape : goal.decreases-loop-shape
decreases-loop-shape l = l.here.left
