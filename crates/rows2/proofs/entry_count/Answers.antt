-- `entry_count` tells page 0 from any other, as the definition does.
use Rattle.fields.proofs.Plain.{eq-eqb, ne_eqb}
use Rattle.rows2.proofs.entry_count.Goals as goal

pub returns-then-page-eq0 : goal.returns-then-page-eq0
returns-then-page-eq0 c = rw (eq-eqb _ _ c.if-page-eq0.true, c.root_start.ensures)

pub returns : goal.returns
returns c = rw (ne_eqb _ _ c.if-page-eq0.false)
