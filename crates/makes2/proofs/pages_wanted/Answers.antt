-- Each arm knows its case.
use Rattle.makes2.proofs.Rooms.{wanted_there, wanted_full}
use Rattle.makes2.proofs.pages_wanted.Goals as goal

pub returns-in-Some : goal.returns-in-Some
returns-in-Some c = search wanted_there

pub returns-in-None : goal.returns-in-None
returns-in-None c = search wanted_full
