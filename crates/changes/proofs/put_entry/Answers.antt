-- `put_entry` lends the place of the entry alone, and what comes back stands there.
use Rattle.laws.proofs.NewEntry.{new_length}
use Rattle.entry_bytes.proofs.Puts.{entry_put}
use Rattle.changes.proofs.put_entry.Goals as goal

pub returns : goal.returns
returns c = search (entry_put, new_length)
