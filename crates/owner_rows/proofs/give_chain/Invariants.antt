use Rattle.fields.proofs.Plain.{◌≡◌, ◌-◌, length}
use Rattle.claims.specs.Claim.{claim_chain}
use Rattle.owner_rows.proofs.give_chain.Given as goal

abbrev pub invariant-loop : goal.invariant-loop
invariant-loop l = (length l.row ≡ length l.initial.row) × (claim_chain l.image l.at l.k l.initial.page.0 l.initial.row ≡ claim_chain l.image l.at (l.k - l.counter) l.page.0 l.row)

abbrev pub decreases-loop : goal.decreases-loop
decreases-loop l = l.k - l.counter
