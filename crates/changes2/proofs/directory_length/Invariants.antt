use Rattle.fields.proofs.Plain.{◌-◌}
use Rattle.shape.specs.Geometry.{geometry_of}
use Rattle.changes2.proofs.Directories.{Counting}
use Rattle.changes2.proofs.directory_length.Given as goal

abbrev pub invariant-loop-passed : goal.invariant-loop-passed
invariant-loop-passed l = Counting (geometry_of l.shape) l.image l.n l.initial.page.0 l.passed l.page.0

abbrev pub decreases-loop-passed : goal.decreases-loop-passed
decreases-loop-passed l = l.n - l.passed
