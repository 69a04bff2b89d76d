-- `link` loads from the cell of the page's link.
use Rattle.shape.proofs.link.Goals as goal

pub load-requires : goal.load-requires
load-requires c = rw c.link_cell.ensures c.requires

pub returns : goal.returns
returns c = rw c.link_cell.ensures at c.load.ensures.0
