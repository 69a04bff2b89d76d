-- `grow_unzeroed`: as `grow`, and the one byte of a page before its content is its link.
use Rattle.chains.proofs.Asked.{growing, link_first}
use Rattle.chains.proofs.grow_unzeroed.Goals as goal

pub grow_unzeroed-requires : goal.grow_unzeroed-requires
grow_unzeroed-requires c = (growing c.requires, link_first)
