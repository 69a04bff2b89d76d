-- `take_page` claims the page and zeroes it; it lies in the image as before.
use Rattle.fields.proofs.Plain.{arith}
use Rattle.volume.proofs.Stores.{taken_claimed}
use Rattle.shape.specs.Geometry.{geometry_of}
use Rattle.shape_pages.proofs.take_page.Goals as goal

pub zero_page-requires : goal.zero_page-requires
zero_page-requires c = omega (arith, c.requires.0.page, c.claim_page.auto.image)

pub returns : goal.returns
returns c = taken_claimed (geometry_of c.args.shape) _ _ _ _ c.claim_page.ensures c.zero_page.ensures
