-- The directory has no entry of that name, or the entry that it has says what the place is.
use Rattle.places.proofs.Places.{not_named, named_vacant, named_file, named_directory}
use Rattle.places.proofs.last_place.Goals as goal

pub returns-in_err-entry : goal.returns-in_err-entry
returns-in_err-entry c = not_named _ _ _ _ _ c.pad-name.ensures _ _ _ c.entry_named.ensures.1 c.in_err-entry.ensures.ok_part c.in_err-entry.ensures.value c.from_residual.ensures.1

pub returns-in-Vacant : goal.returns-in-Vacant
returns-in-Vacant c = let f = c.entry_named.ensures in named_vacant _ _ _ _ _ c.pad-name.ensures _ (rw c.in_ok-entry.ensures.ok_part at f.1) c.in-Vacant.ensures.0

pub returns-in-File : goal.returns-in-File
returns-in-File c = let f = c.entry_named.ensures in named_file _ _ _ _ _ c.pad-name.ensures _ (rw c.in_ok-entry.ensures.ok_part at f.1) c.in-File.ensures.0

pub returns-in-Directory : goal.returns-in-Directory
returns-in-Directory c = let f = c.entry_named.ensures in named_directory _ _ _ _ _ c.pad-name.ensures _ (rw c.in_ok-entry.ensures.ok_part at f.1) c.in-Directory.ensures.0
