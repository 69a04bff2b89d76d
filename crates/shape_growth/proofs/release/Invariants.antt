use Rattle.fields.proofs.Plain.{◌-◌}
use Rattle.shape.specs.Geometry.{geometry_of}
use Rattle.volume.proofs.Releasing.{Releasing}
use Rattle.shape_growth.proofs.release.Given as goal

abbrev pub invariant-loop : goal.invariant-loop
invariant-loop l = Releasing (geometry_of l.shape) l.initial.image l.k l.initial.page.0 l.counter l.page.0 l.image

abbrev pub decreases-loop : goal.decreases-loop
decreases-loop l = l.k - l.counter
