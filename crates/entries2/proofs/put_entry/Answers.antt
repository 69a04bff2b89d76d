-- `put_entry` lends the place of the entry alone, and what comes back stands there.
use Rattle.laws2.proofs.NewEntry2.{new_length}
use Rattle.entry_bytes.proofs.Puts.{entry_put}
use Rattle.entries2.proofs.put_entry.Goals as goal

pub returns : goal.returns
returns c = search (entry_put, new_length)
