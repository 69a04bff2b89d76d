-- `make_entry` puts the bytes of the new entry, and grows from its start page as the contract asks.
use Rattle.changes2.proofs.Makes2.{put_growing, put_grown}
use Rattle.changes2.proofs.make_entry.Goals as goal

pub grow-requires : goal.grow-requires
grow-requires c = put_growing c.requires c.put_entry.ensures

pub returns : goal.returns
returns c = put_grown c.requires c.put_entry.ensures c.grow.ensures
