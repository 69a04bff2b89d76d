-- The directory has no entry of that name, or the entry that it has says what the place is.
use Rattle.places2.proofs.Places.{not_named, named_vacant, named_file, named_directory}
use Rattle.walk2.proofs.Entries.{inside_at}
use borrow.Author.Rules.{rules}
use Rattle.places2.proofs.last_place.Goals as goal

pub returns-in_default : goal.returns-in_default
returns-in_default c = (tt, search not_named)

pub entry_at-requires : goal.entry_at-requires
entry_at-requires c = search inside_at

pub returns-in-Vacant : goal.returns-in-Vacant
returns-in-Vacant c = (tt, search named_vacant)

pub returns-in-File : goal.returns-in-File
returns-in-File c = (search rules, search named_file)

pub returns-in-Directory : goal.returns-in-Directory
returns-in-Directory c = (search rules, search named_directory)
