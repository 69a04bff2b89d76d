-- An occupied entry has its name, and a vacant one none; the parts that are lent are the names of the two entries.
use Rattle.names.proofs.Names.{names_same}
use Rattle.names.proofs.Occupied.{vacant_unnamed, occupied_named}
use Rattle.names.proofs.has_name_of.Goals as goal

pub returns-in-Vacant : goal.returns-in-Vacant
returns-in-Vacant c = search vacant_unnamed

pub returns : goal.returns
returns c = search (occupied_named, names_same)
