use Rattle.fields.proofs.Plain.{◌≡◌, ◌-◌, length}
use Rattle.model.specs.Entry.{entries}
use Rattle.claims.specs.Lent.{rest, entered}
use Rattle.claims.proofs.claim_entries.Given as goal

abbrev pub invariant-loop-i : goal.invariant-loop-i
invariant-loop-i l = (length l.row ≡ length l.initial.row) × (entered l.image (entries l.directory.0) l.initial.row ≡ entered l.image (rest l.directory.0 l.i) l.row)

abbrev pub decreases-loop-i : goal.decreases-loop-i
decreases-loop-i l = l.count - l.i
