-- The pages of a housed directory lie in the image, so a cursor may go over them, and the row that it goes over is the view's.
use Rattle.known2.proofs.Rows.{known_roomy, known_some, housed_lies}
use Rattle.walk2.proofs.Entries.{named_view, named_inside}
use Rattle.walk2.proofs.entry_named.Goals as goal

pub entry_named-requires : goal.entry_named-requires
entry_named-requires c = (search known_roomy, search known_some, search housed_lies)

pub returns : goal.returns
returns c = (named_inside c.requires.0 c.requires.1 _ c.entry_named.result c.entry_named.ensures, search named_view)
