-- `put` lends the place of the bytes alone, and what comes back stands there.
use Rattle.entry_bytes.proofs.Puts.{lent_put}
use Rattle.entry_bytes.proofs.put.Goals as goal

pub returns : goal.returns
returns c = search lent_put
