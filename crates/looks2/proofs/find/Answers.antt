-- The place decides; at an entry, lock and date are read where the model reads them.
use Rattle.looks2.proofs.Finds.{find_root, find_directory, find_file}
use Rattle.arrivals.proofs.Finds.{find_refused}
use Rattle.outcomes.proofs.Exits.{told_on}
use Rattle.places2.proofs.Held.{reads2, file_entry, directory_entry}
use Rattle.looks2.proofs.find.Goals as goal

pub returns-in_err-arrived : goal.returns-in_err-arrived
returns-in_err-arrived c = told_on _ _ _ _ c.from_residual.ensures.1 (find_refused reads2 _ _ c.in_err-arrived.ensures.1)

pub is_locked-locked-requires : goal.is_locked-locked-requires
is_locked-locked-requires c = file_entry _ _ c.in_ok-arrived.arrived c.in_ok-arrived.ensures c.in-File.is

pub date_of-date-requires : goal.date_of-date-requires
date_of-date-requires c = file_entry _ _ c.in_ok-arrived.arrived c.in_ok-arrived.ensures c.in-File.is

pub date_of-date-requires-in-Directory : goal.date_of-date-requires-in-Directory
date_of-date-requires-in-Directory c = directory_entry _ _ c.in_ok-arrived.arrived c.in_ok-arrived.ensures c.in-Directory.is

pub returns-in-Root : goal.returns-in-Root
returns-in-Root c = find_root _ _ c.in_ok-arrived.arrived c.in_ok-arrived.ensures c.in-Root.is

pub returns-in-File : goal.returns-in-File
returns-in-File c = find_file _ _ c.in_ok-arrived.arrived c.in_ok-arrived.ensures c.date_of-date.ensures c.in-File.is c.is_locked-locked.ensures

pub returns-in-Directory : goal.returns-in-Directory
returns-in-Directory c = find_directory _ _ c.in_ok-arrived.arrived c.in_ok-arrived.ensures c.date_of-date-in-Directory.ensures c.in-Directory.is
