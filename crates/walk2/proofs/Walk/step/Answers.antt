-- One name on: no entry has it, or the first that has it is vacant, a file or a directory, as the model takes it; a directory that is held is housed.
use Rattle.walk2.proofs.Entries.{no_entry, inside_at, entry_vacant, entry_file, entry_directory, entry_housed}
use Rattle.walk2.proofs.Walk.step.Goals as goal

pub returns-in_default : goal.returns-in_default
returns-in_default c = (tt, search no_entry)

pub entry_at-requires : goal.entry_at-requires
entry_at-requires c = search inside_at

pub returns-in-Vacant : goal.returns-in-Vacant
returns-in-Vacant c = (tt, search entry_vacant)

pub returns-in-File : goal.returns-in-File
returns-in-File c = (tt, search entry_file)

pub returns-in-Directory : goal.returns-in-Directory
returns-in-Directory c = (search entry_housed, search entry_directory)
