-- `make_entry` puts the bytes of the new entry, and grows from its start page as the contract asks.
use Rattle.changes.proofs.Makes.{put_growing, put_grown}
use Rattle.changes.proofs.make_entry.Goals as goal

pub grow-requires : goal.grow-requires
grow-requires c = search put_growing

pub returns : goal.returns
returns c = search put_grown
