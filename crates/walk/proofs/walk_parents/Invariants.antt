use Rattle.fields.proofs.Plain.{◌-◌, length}
use Rattle.walk.proofs.Parents.{Standing}
use Rattle.walk.proofs.walk_parents.Given as goal

abbrev pub invariant-loop-walk : goal.invariant-loop-walk
invariant-loop-walk l = Standing l.image l.path (l.walk.0.0) l.from

abbrev pub decreases-loop-walk : goal.decreases-loop-walk
decreases-loop-walk l = length l.path - l.from
