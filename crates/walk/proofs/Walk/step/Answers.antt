-- One name on: no entry has it, or the first that has it is vacant, a file or a directory, as the model takes it.
use Rattle.walk.proofs.Entries.{no_entry, entry_vacant, entry_file, entry_directory}
use Rattle.walk.proofs.Walk.step.Goals as goal

pub returns-in_err-at : goal.returns-in_err-at
returns-in_err-at c = no_entry _ _ _ _ _ _ _ c.entry_named.ensures.1 c.in_err-at.ensures.ok_part c.in_err-at.ensures.value c.from_residual.ensures.1

pub returns-in-Vacant : goal.returns-in-Vacant
returns-in-Vacant c = let f = c.entry_named.ensures in (tt, entry_vacant _ _ _ _ _ (rw c.in_ok-at.ensures.ok_part at f.1) c.in-Vacant.ensures.0)

pub returns-in-File : goal.returns-in-File
returns-in-File c = let f = c.entry_named.ensures in (tt, entry_file _ _ _ _ _ (rw c.in_ok-at.ensures.ok_part at f.1) c.in-File.ensures.0)

pub returns-in-Directory : goal.returns-in-Directory
returns-in-Directory c = let f = c.entry_named.ensures in (c.in-Directory.ensures.1.0, entry_directory _ _ _ _ _ (rw c.in_ok-at.ensures.ok_part at f.1) c.in-Directory.ensures.0)
