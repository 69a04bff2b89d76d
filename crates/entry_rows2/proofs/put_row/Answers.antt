-- The entry at the position says what it is, and its other fields are read beside it.
use Rattle.fields.proofs.Plain.{rules, subst}
use Rattle.fields2.specs.Read.{Small}
use Rattle.entry_rows2.proofs.RowBytes.{put_vacant, put_file, put_directory}
use Rattle.entry_rows2.proofs.put_row.Goals as goal

pub fill_row-requires : goal.fill_row-requires
fill_row-requires c = (search rules, search rules, search rules, (subst Small c.in-File.is c.entry_at.ensures.1).1)

pub returns-in-Vacant : goal.returns-in-Vacant
returns-in-Vacant c = put_vacant _ _ _ c.requires.0 c.zero.ensures (rw c.in-Vacant.is at c.entry_at.ensures.0)

pub returns-in-File : goal.returns-in-File
returns-in-File c =
    put_file _ _ _ c.date_of-date.ensures c.name_of-name.ensures c.is_locked.ensures c.from-locked.ensures c.fill_row.ensures
    (rw c.in-File.is at c.entry_at.ensures.0)

pub returns-in-Directory : goal.returns-in-Directory
returns-in-Directory c = put_directory _ _ _ c.date_of-date-in-Directory.ensures c.name_of-name-in-Directory.ensures c.fill_row-in-Directory.ensures (rw c.in-Directory.is at c.entry_at.ensures.0)
