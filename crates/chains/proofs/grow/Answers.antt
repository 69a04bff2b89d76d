-- `grow`: version 1 is a lawful geometry, and a page's number is a byte.
use Rattle.chains.proofs.Asked.{growing}
use Rattle.chains.proofs.grow.Goals as goal

pub grow-requires : goal.grow-requires
grow-requires c = growing c.requires
