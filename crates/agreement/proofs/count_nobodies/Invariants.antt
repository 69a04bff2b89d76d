use Rattle.fields.proofs.Plain.{◌≡◌, ◌≤◌}
use Rattle.agreement.specs.Marked.{nobodies}
use Rattle.agreement.proofs.count_nobodies.Given as goal

abbrev pub invariant-loop-owner : goal.invariant-loop-owner
invariant-loop-owner l = (l.count ≤ l.owner-index) × (l.count ≡ nobodies l.row l.owner-index)
