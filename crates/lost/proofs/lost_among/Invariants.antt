use Rattle.fields.proofs.Plain.{◌≡◌, ◌-◌}
use Rattle.shape.specs.Geometry.{geometry_of}
use Rattle.lost.proofs.Lost.{lost_from}
use Rattle.lost.proofs.lost_among.Given as goal

abbrev pub invariant-loop-p : goal.invariant-loop-p
invariant-loop-p l = lost_from (geometry_of l.shape) l.image l.marks l.to l.from ≡ lost_from (geometry_of l.shape) l.image l.marks l.to l.p

abbrev pub decreases-loop-p : goal.decreases-loop-p
decreases-loop-p l = l.to - l.p
