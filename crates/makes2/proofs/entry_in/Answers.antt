-- A vacant entry is there already, or the directory gets a page and is searched again: either way the image is the one with room.
use Rattle.makes2.proofs.Rooms.{there_lowest, there_roomy, full_lengthening, full_known, full_housed, full_roomy}
use borrow.Author.Rules.{rules}
use Rattle.makes2.proofs.entry_in.Goals as goal

pub lengthen-requires : goal.lengthen-requires
lengthen-requires c = search full_lengthening

pub lowest_vacant-requires : goal.lowest_vacant-requires
lowest_vacant-requires c = (search full_known, search full_housed)

pub returns-in-Some : goal.returns-in-Some
returns-in-Some c = record { value = search there_lowest; image_after = search there_roomy }

pub returns-in-None : goal.returns-in-None
returns-in-None c = record { value = search rules; image_after = search full_roomy }
