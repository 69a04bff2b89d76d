-- `bit` halves the byte until the bit is the lowest.
use Rattle.volume.specs.Geometry.{page_bit}
use Rattle.shape_bits.proofs.bit.Goals as goal

pub returns : goal.returns
unfolding page_bit
returns c = rw c.from-byte.ensures
