use Rattle.fields.proofs.Plain.{◌≡◌, ◌-◌}
use Rattle.model.specs.Entry.{entry_count}
use Rattle.walk.proofs.Entries.{Looked}
use Rattle.walk.proofs.entry_named.Given as goal

abbrev pub invariant-loop-i : goal.invariant-loop-i
invariant-loop-i l = (l.i-end ≡ entry_count l.directory.0) × Looked l.image l.directory.0 l.name l.i

abbrev pub decreases-loop-i : goal.decreases-loop-i
decreases-loop-i l = l.i-end - l.i
