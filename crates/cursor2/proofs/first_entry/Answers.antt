-- The row that `first_entry` leaves is all of it.
use Rattle.rows2.proofs.On.{some_entry}
use Rattle.cursor2.proofs.Turns.{row_first, pages_lie}
use Rattle.cursor2.proofs.first_entry.Goals as goal

pub returns : goal.returns
returns c = (row_first _ _ _ _ c.requires.1, record { within = some_entry c.requires.0 c.args.directory.0; pages = pages_lie c.args.shape _ _ c.args.directory.0 c.requires.1 c.requires.2 })
