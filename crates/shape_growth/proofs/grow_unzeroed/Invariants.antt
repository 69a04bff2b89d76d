use Rattle.fields.proofs.Plain.{◌-◌, ◌≤◌}
use Rattle.shape.specs.Geometry.{field_of, geometry_of}
use Rattle.volume.proofs.Claiming.{Claiming}
use Rattle.shape_bitmap.specs.Lowest.{Before}
use Rattle.shape_growth.proofs.grow_unzeroed.Given as goal

abbrev pub invariant-loop : goal.invariant-loop
invariant-loop l = (1 ≤ l.counter) × (l.counter ≤ l.count) × Claiming (geometry_of l.shape) l.n l.count (field_of l.initial.at) l.initial.image (l.counter - 1) (field_of l.at) l.image × Before (geometry_of l.shape) l.n l.searched l.image

abbrev pub decreases-loop : goal.decreases-loop
decreases-loop l = l.count - l.counter
