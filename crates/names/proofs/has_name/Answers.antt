-- The part that is lent is the entry's name.
use Rattle.names.proofs.Names.{name_same}
use Rattle.names.proofs.has_name.Goals as goal

pub returns : goal.returns
returns c = search name_same
