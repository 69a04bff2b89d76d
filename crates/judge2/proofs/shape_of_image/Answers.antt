-- `shape_of_image` makes the image's shape, for the code that it reads is the one that stands in byte 6.
use Rattle.fields.proofs.Plain.{arith}
use Rattle.judge2.proofs.Shapes.{code_within, code_low, shape_made}
use Rattle.judge2.proofs.shape_of_image.Goals as goal

pub bounds-image-6 : goal.bounds-image-6
bounds-image-6 c = omega (arith, code_within c.requires)

pub shape_of-requires : goal.shape_of-requires
shape_of-requires c = code_low c.requires c.from-code.ensures

pub returns : goal.returns
returns c = shape_made _ _ _ _ c.requires c.from-code.ensures c.shape_of.ensures
