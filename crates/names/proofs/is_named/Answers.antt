-- An occupied entry has its name, and a vacant one none.
use Rattle.names.proofs.Occupied.{vacant_unnamed, occupied_named}
use Rattle.names.proofs.is_named.Goals as goal

pub returns-in-Vacant : goal.returns-in-Vacant
returns-in-Vacant c = search vacant_unnamed

pub returns : goal.returns
returns c = search occupied_named
