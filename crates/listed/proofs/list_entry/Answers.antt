-- An index past the end is refused; else the entry at the position says what it is, and its name and date are read beside it.
use Rattle.listed.proofs.Lists.{past_end, listed_vacant, listed_file, listed_directory}
use Rattle.fields.proofs.Plain.{arith}
use Rattle.listed.proofs.list_entry.Goals as goal

pub returns-then-entry_count-i : goal.returns-then-entry_count-i
returns-then-entry_count-i c = past_end _ _ _ (omega arith)

pub returns-in-Vacant : goal.returns-in-Vacant
returns-in-Vacant c = listed_vacant _ _ _ (omega arith) c.entry_position-at.ensures.0 c.in-Vacant.ensures.0

pub returns-in-File : goal.returns-in-File
returns-in-File c =
    listed_file _ _ _ (omega arith) c.entry_position-at.ensures.0 c.name_of.ensures c.date_of.ensures c.is_locked-locked.ensures c.in-File.ensures.0

pub returns-in-Directory : goal.returns-in-Directory
returns-in-Directory c =
    listed_directory _ _ _ (omega arith) c.entry_position-at.ensures.0 c.name_of-in-Directory.ensures c.date_of-in-Directory.ensures c.in-Directory.ensures.0
