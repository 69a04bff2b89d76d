-- The two cases of the definition.
use Rattle.fields.proofs.Plain.{ne_eqb}
use Rattle.claims.proofs.is_legal_before.Goals as goal

pub returns-then-c-eq0 : goal.returns-then-c-eq0
returns-then-c-eq0 c = rw c.if-c-eq0.true

pub returns : goal.returns
returns c = rw (ne_eqb _ 0 c.if-c-eq0.false, c.legal_byte.ensures)
