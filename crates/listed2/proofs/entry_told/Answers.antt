-- The entry at the position says what it is, and its name and date are read beside it.
use Rattle.listed2.proofs.Lists.{told_vacant, told_file, told_directory}
use Rattle.listed2.proofs.entry_told.Goals as goal

pub returns-in-Vacant : goal.returns-in-Vacant
returns-in-Vacant c = told_vacant _ _ _ (rw c.in-Vacant.is at c.entry_at.ensures.0)

pub returns-in-File : goal.returns-in-File
returns-in-File c = told_file _ _ _ c.name_of-name.ensures c.date_of-date.ensures c.is_locked-locked.ensures (rw c.in-File.is at c.entry_at.ensures.0)

pub returns-in-Directory : goal.returns-in-Directory
returns-in-Directory c = told_directory _ _ _ c.name_of-name-in-Directory.ensures c.date_of-date-in-Directory.ensures (rw c.in-Directory.is at c.entry_at.ensures.0)
