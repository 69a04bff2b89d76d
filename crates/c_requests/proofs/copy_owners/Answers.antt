-- `copy_owners` copies one number a turn.
use Rattle.fields.proofs.Plain.{arith}
use Rattle.c_requests.proofs.Rows.{copied_next, copied_all}
use Rattle.c_requests.proofs.copy_owners.Goals as goal

pub loop-p-init : goal.loop-p-init
loop-p-init c = record { long = omega arith; most = omega arith; each = λ i h. absurd (omega arith) }

pub loop-p-preserved : goal.loop-p-preserved
loop-p-preserved c = copied_next c.loop-p.invariant (omega arith)

pub returns : goal.returns
returns c = copied_all c.loop-p.invariant (omega arith)
