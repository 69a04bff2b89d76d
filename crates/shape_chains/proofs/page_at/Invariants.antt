use Rattle.fields.proofs.Plain.{◌-◌}
use Rattle.shape.specs.Geometry.{geometry_of}
use Rattle.volume.proofs.Follow.{Following}
use Rattle.shape_chains.proofs.page_at.Given as goal

abbrev pub invariant-loop : goal.invariant-loop
invariant-loop l = Following (geometry_of l.shape) l.image l.index l.initial.page.0 l.counter (l.page.0)

abbrev pub decreases-loop : goal.decreases-loop
decreases-loop l = l.index - l.counter
