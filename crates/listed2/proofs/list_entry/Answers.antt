-- What is left of the row behind i entries is nothing, or begins with the entry that is told.
use Rattle.listed2.proofs.Lists.{list_past, list_here}
use Rattle.known2.proofs.Rows.{known_roomy, known_some, housed_lies}
use Rattle.listed2.proofs.list_entry.Goals as goal

pub entry_numbered-requires : goal.entry_numbered-requires
entry_numbered-requires c = let k = c.requires in (known_roomy k.0, known_some k.0, housed_lies k.0 k.1)

pub returns-in_default : goal.returns-in_default
returns-in_default c = list_past c.requires.0 _ _ c.in_default.ensures.0

pub position_of-at-requires : goal.position_of-at-requires
position_of-at-requires c = (known_roomy c.requires.0, c.in-Some.ensures.1)

pub returns : goal.returns
returns c = list_here c.requires.0 _ _ _ c.in-Some.ensures.0 c.in-Some.ensures.1 c.position_of-at.ensures.0 c.entry_told.ensures
