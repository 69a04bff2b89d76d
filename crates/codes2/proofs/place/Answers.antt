-- Each arm packs the place of its case; the others have none.
use Rattle.codes2.proofs.Codes.{no_place}
use Rattle.codes2.proofs.place.Goals as goal

pub fault_place-requires : goal.fault_place-requires
fault_place-requires c = rw c.in-Unsound.is at c.requires

pub pack-requires : goal.pack-requires
pack-requires c = rw c.in-NoSuchName.is at c.requires

pub pack-requires-in-NotADirectory : goal.pack-requires-in-NotADirectory
pack-requires-in-NotADirectory c = rw c.in-NotADirectory.is at c.requires

pub returns-in-Unsound : goal.returns-in-Unsound
returns-in-Unsound c = rw c.in-Unsound.is c.fault_place.ensures

pub returns-in-NoSuchName : goal.returns-in-NoSuchName
returns-in-NoSuchName c = rw c.in-NoSuchName.is c.pack.ensures

pub returns-in-NotADirectory : goal.returns-in-NotADirectory
returns-in-NotADirectory c = rw c.in-NotADirectory.is c.pack-in-NotADirectory.ensures

pub returns-in_default : goal.returns-in_default
returns-in_default c = no_place c.args.r c.in_default.not-Unsound c.in_default.not-NoSuchName c.in_default.not-NotADirectory
