-- `claim_page` asks for the range and for an owner before it sets one: the definition asks both at once.
use Rattle.fields.proofs.Plain.{lt-ltb, le-ltb, eq-eqb, ne_eqb}
use Rattle.claims.specs.Claim.{claim}
use Rattle.claims.proofs.claim_page.Goals as goal

pub returns-then-p-row : goal.returns-then-p-row
unfolding claim
returns-then-p-row c = rw (le-ltb _ _ c.if-p-row.true)

pub returns-then-row-p-ne0 : goal.returns-then-row-p-ne0
unfolding claim
returns-then-row-p-ne0 c = rw (lt-ltb _ _ c.if-p-row.false, ne_eqb _ _ c.if-row-p-ne0.true)

pub returns : goal.returns
unfolding claim
returns c = rw (lt-ltb _ _ c.if-p-row.false, eq-eqb _ _ c.if-row-p-ne0.false)
