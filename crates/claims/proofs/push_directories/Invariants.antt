use Rattle.fields.proofs.Plain.{◌-◌}
use Rattle.claims.proofs.Names.{Pushes}
use Rattle.claims.proofs.push_directories.Given as goal

abbrev pub invariant-loop-i : goal.invariant-loop-i
invariant-loop-i l = Pushes l.image l.directory.0 l.found l.initial.list l.end l.i l.list

abbrev pub decreases-loop-i : goal.decreases-loop-i
decreases-loop-i l = l.count - l.i
