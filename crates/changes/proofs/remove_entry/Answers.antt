-- `remove_entry` clears the flags of the image that the release has left.
use Rattle.changes.proofs.remove_entry.Goals as goal

pub returns : goal.returns
returns c = rw c.release.ensures
