-- The place decides; at an entry, lock and date are read where the model reads them.
use Rattle.outcomes.proofs.Exits.{told_on}
use Rattle.looks.proofs.Finds.{find_refused, find_root, find_directory, find_file}
use Rattle.answers.proofs.Files.{at_root, at_file, at_directory, file_entry, directory_entry}
use Rattle.looks.proofs.find.Goals as goal

pub returns-in_err-arrive : goal.returns-in_err-arrive
returns-in_err-arrive c = told_on _ _ _ _ c.from_residual.ensures.1 (search (find_refused, c.in_err-arrive.ensures))

pub is_locked-locked-requires : goal.is_locked-locked-requires
is_locked-locked-requires c = search (file_entry, (at_file c.in-File.is c.in_ok-arrive.ensures))

pub date_of-requires : goal.date_of-requires
date_of-requires c = search (file_entry, (at_file c.in-File.is c.in_ok-arrive.ensures))

pub date_of-requires-in-Directory : goal.date_of-requires-in-Directory
date_of-requires-in-Directory c = search (directory_entry, (at_directory c.in-Directory.is c.in_ok-arrive.ensures))

pub returns-in-Root : goal.returns-in-Root
returns-in-Root c = search (find_root, (at_root c.in-Root.is c.in_ok-arrive.ensures))

pub returns-in-File : goal.returns-in-File
returns-in-File c = search (find_file, (at_file c.in-File.is c.in_ok-arrive.ensures))

pub returns-in-Directory : goal.returns-in-Directory
returns-in-Directory c = search (find_directory, (at_directory c.in-Directory.is c.in_ok-arrive.ensures))
