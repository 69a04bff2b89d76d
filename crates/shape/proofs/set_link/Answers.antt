-- `set_link` stores at the cell of the page's link.
use Rattle.shape.proofs.set_link.Goals as goal

pub store-requires : goal.store-requires
store-requires c = rw c.link_cell.ensures c.requires

pub returns : goal.returns
returns c = rw c.link_cell.ensures at c.store.ensures
