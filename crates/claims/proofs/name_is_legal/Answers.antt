-- `name_is_legal` sees one byte a turn, the last one first.
use Rattle.fields.proofs.Plain.{arith}
use Rattle.claims.proofs.Legal.{behind_all, behind_next, behind_none}
use Rattle.claims.proofs.name_is_legal.Goals as goal

pub loop-k-init : goal.loop-k-init
loop-k-init c = search behind_all

pub loop-k-preserved : goal.loop-k-preserved
loop-k-preserved c = behind_next _ _ c.requires _ c.loop-k.invariant (omega arith) c.is_legal_before-legal.ensures

pub returns : goal.returns
returns c = behind_none _ _ c.requires c.loop-k.invariant (omega arith) c.legal_byte.ensures
