use Rattle.fields.proofs.Plain.{◌≡◌, ◌-◌, length}
use Rattle.audit.proofs.Stands.{Stands}
use Rattle.owner_rows.proofs.give_directories.Given as goal

abbrev pub invariant-loop-done : goal.invariant-loop-done
invariant-loop-done l = (length l.list ≡ length l.initial.list) × (length l.row ≡ length l.initial.row) × Stands l.image l.initial.row l.list l.row l.found l.done

abbrev pub decreases-loop-done : goal.decreases-loop-done
decreases-loop-done l = length l.initial.row - l.done
