use Rattle.fields.proofs.Plain.{◌≡◌, ◌-◌, length}
use Rattle.model.specs.Entry.{entries}
use Rattle.claims.specs.Claim.{claim_entries}
use Rattle.claims.specs.Lent.{rest}
use Rattle.claims.proofs.Names.{Pushes}
use Rattle.owner_rows.proofs.give_entries.Given as goal

abbrev pub invariant-loop-i : goal.invariant-loop-i
invariant-loop-i l = (length l.row ≡ length l.initial.row) × (claim_entries l.image (entries l.directory.0) l.initial.row ≡ claim_entries l.image (rest l.directory.0 l.i) l.row)
    × Pushes l.image l.directory.0 l.found l.initial.list l.end l.i l.list

abbrev pub decreases-loop-i : goal.decreases-loop-i
decreases-loop-i l = l.count - l.i
