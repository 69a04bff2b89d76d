-- `with_lock` takes bit 6 away and adds it again where it is asked for, as the model does.
use Rattle.model.specs.Effect.{with_lock}
use Rattle.fields.proofs.Plain.{arith}
use Rattle.entry_bytes.proofs.with_lock.Goals as goal

pub returns-then-locked : goal.returns-then-locked
unfolding with_lock
returns-then-locked c = rw c.if-locked.true

pub returns-else-locked : goal.returns-else-locked
unfolding with_lock
returns-else-locked c = rw c.if-locked.false (omega arith)
