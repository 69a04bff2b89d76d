-- `lengthen` grows at the link of the directory's last page, by one.
use Rattle.changes2.proofs.Growths.{held_inside, length_growing, length_done}
use Rattle.changes2.proofs.lengthen.Goals as goal

pub directory_length-held-requires : goal.directory_length-held-requires
directory_length-held-requires c = c.requires.walk

pub last_link-joint-requires : goal.last_link-joint-requires
last_link-joint-requires c = held_inside c.requires c.directory_length-held.ensures

pub grow-requires : goal.grow-requires
grow-requires c = length_growing c.requires c.directory_length-held.ensures c.last_link-joint.ensures

pub returns : goal.returns
returns c = length_done c.requires c.directory_length-held.ensures c.last_link-joint.ensures c.grow.ensures
