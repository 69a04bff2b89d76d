-- Each arm knows its fault, whose numbers are the place that is packed.
use Rattle.codes.proofs.fault_place.Goals as goal

pub pack-requires : goal.pack-requires
pack-requires c = rw c.in-BadEntry.is at c.requires

pub pack-requires-in-BadChain : goal.pack-requires-in-BadChain
pack-requires-in-BadChain c = rw c.in-BadChain.is at c.requires

pub pack-requires-in-OwnedTwice : goal.pack-requires-in-OwnedTwice
pack-requires-in-OwnedTwice c = rw c.in-OwnedTwice.is at c.requires

pub pack-requires-in-MarkedFree : goal.pack-requires-in-MarkedFree
pack-requires-in-MarkedFree c = rw c.in-MarkedFree.is at c.requires

pub pack-requires-in-LostPage : goal.pack-requires-in-LostPage
pack-requires-in-LostPage c = rw c.in-LostPage.is at c.requires

pub returns-in-BadEntry : goal.returns-in-BadEntry
returns-in-BadEntry c = rw c.in-BadEntry.is c.pack.ensures

pub returns-in-BadChain : goal.returns-in-BadChain
returns-in-BadChain c = rw c.in-BadChain.is c.pack-in-BadChain.ensures

pub returns-in-OwnedTwice : goal.returns-in-OwnedTwice
returns-in-OwnedTwice c = rw c.in-OwnedTwice.is c.pack-in-OwnedTwice.ensures

pub returns-in-MarkedFree : goal.returns-in-MarkedFree
returns-in-MarkedFree c = rw c.in-MarkedFree.is c.pack-in-MarkedFree.ensures

pub returns-in-LostPage : goal.returns-in-LostPage
returns-in-LostPage c = rw c.in-LostPage.is c.pack-in-LostPage.ensures

pub returns-in-BadCount : goal.returns-in-BadCount
returns-in-BadCount c = rw c.in-BadCount.is c.pack-in-BadCount.ensures
