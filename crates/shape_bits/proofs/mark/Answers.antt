-- `mark` adds the weight of a bit that is 0, which leaves a byte; a page whose bit is 1 is marked as it stands.
use Rattle.fields.proofs.Plain.{rules, arith, ◌+◌, ◌<◌}
use Rattle.shape.specs.Geometry.{geometry_of}
use Rattle.volume.proofs.Weights.{mark_fits, mark_stored, mark_left}
use Rattle.shape_bits.proofs.mark.Goals as goal
use Rattle.shape_bits.proofs.mark.Goals.{After-weight}

fits : (c : After-weight) → c.from-byte.result + c.weight.result < 256
fits c =
    let byte : c.from-byte.result < 256 = search rules in
    search mark_fits

pub overflow_add-image : goal.overflow_add-image
overflow_add-image c = omega (arith, fits c)

pub overflow_cast-image : goal.overflow_cast-image
overflow_cast-image c = omega (arith, fits c)

pub returns-then-bit-eq0 : goal.returns-then-bit-eq0
returns-then-bit-eq0 c = search (mark_stored (geometry_of c.args.shape))

pub returns-else-bit-eq0 : goal.returns-else-bit-eq0
returns-else-bit-eq0 c = search (mark_left (geometry_of c.args.shape))
