-- `unmark` takes the weight of a bit that is 1 off the byte, which has it; a page whose bit is 0 is unmarked as it stands.
use Rattle.shape.specs.Geometry.{geometry_of}
use Rattle.volume.proofs.Weights.{unmark_fits, unmark_stored, unmark_left}
use Rattle.shape_bits.proofs.unmark.Goals as goal

pub overflow_sub-image : goal.overflow_sub-image
overflow_sub-image c = search unmark_fits

pub returns-then-bit-eq1 : goal.returns-then-bit-eq1
returns-then-bit-eq1 c = search (unmark_stored (geometry_of c.args.shape))

pub returns-else-bit-eq1 : goal.returns-else-bit-eq1
returns-else-bit-eq1 c = search (unmark_left (geometry_of c.args.shape))
