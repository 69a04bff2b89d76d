use Rattle.fields.proofs.Plain.{◌-◌, length}
use Rattle.walk2.proofs.Parents.{Standing}
use Rattle.walk2.proofs.walk_parents.Given as goal

abbrev pub invariant-loop-shape : goal.invariant-loop-shape
invariant-loop-shape l = Standing l.image l.path (l.walk.0.0) l.from

abbrev pub decreases-loop-shape : goal.decreases-loop-shape
decreases-loop-shape l = length l.path - l.from
