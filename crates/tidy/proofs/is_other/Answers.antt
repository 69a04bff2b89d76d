-- A page is an other one by the kind of its owner's entry.
use Rattle.proposals.proofs.Owned.{kind, other_of}
use Rattle.tidy.proofs.is_other.Goals as goal

pub returns-in-Vacant : goal.returns-in-Vacant
returns-in-Vacant c = other_of _ _ (kind _ _ _ c.owner_entry.ensures.0 c.in-Vacant.is)

pub returns-in-File : goal.returns-in-File
returns-in-File c = other_of _ _ (kind _ _ _ c.owner_entry.ensures.0 c.in-File.is)

pub returns-in-Directory : goal.returns-in-Directory
returns-in-Directory c = other_of _ _ (kind _ _ _ c.owner_entry.ensures.0 c.in-Directory.is)
