-- `lock_entry` stores one byte.
use Rattle.entry_bytes.proofs.lock_entry.Goals as goal

pub returns : goal.returns
returns c = rw c.with_lock.ensures
