-- The place decides: it is refused, or it is a directory, whose entry is listed.
use Rattle.listed2.proofs.Lists.{list_said}
use Rattle.arrivals.specs.Places.{the_root}
use Rattle.arrivals.proofs.Lists.{list_refused, list_at_lem}
use Rattle.known2.proofs.Rows.{known_root}
use Rattle.outcomes.proofs.Exits.{told_on}
use Rattle.places2.proofs.Held.{reads2, known_at, at_root, at_file, at_directory, directory_there}
use Rattle.listed2.proofs.list.Goals as goal

pub returns-in_err-arrived : goal.returns-in_err-arrived
returns-in_err-arrived c = told_on _ _ _ _ c.from_residual.ensures.1 (list_refused reads2 _ _ _ c.in_err-arrived.ensures.1)

pub list_entry-requires : goal.list_entry-requires
list_entry-requires c = let k = known_at _ _ c.in_ok-arrived.arrived c.in_ok-arrived.ensures in (k, known_root k)

pub list_entry-requires-in-Directory : goal.list_entry-requires-in-Directory
list_entry-requires-in-Directory c = (known_at _ _ c.in_ok-arrived.arrived c.in_ok-arrived.ensures, directory_there _ _ c.in_ok-arrived.arrived c.in_ok-arrived.ensures c.in-Directory.is)

pub returns-in-Root : goal.returns-in-Root
returns-in-Root c = list_said _ _ _ the_root (at_root _ _ c.in_ok-arrived.arrived c.in_ok-arrived.ensures c.in-Root.is) c.list_entry.ensures

pub returns-in-File : goal.returns-in-File
returns-in-File c = list_at_lem reads2 _ _ _ _ (at_file _ _ c.in_ok-arrived.arrived c.in_ok-arrived.ensures c.in-File.is)

pub returns-in-Directory : goal.returns-in-Directory
returns-in-Directory c = list_said _ _ _ _ (at_directory _ _ c.in_ok-arrived.arrived c.in_ok-arrived.ensures c.in-Directory.is) c.list_entry-in-Directory.ensures
