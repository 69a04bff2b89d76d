-- `claim_page` does the stores of its definition in their order; one less than the count fits where the count stands, and so does 0 where a link does.
use Rattle.fields.proofs.Plain.{◌≡◌, arith}
use Rattle.volume.specs.Geometry as On
use Rattle.volume.proofs.Small.{fits_le, fits_byte}
use Rattle.volume.proofs.Stores.{claimed_stored}
use Rattle.shape.specs.Geometry.{geometry_of}
use Rattle.shape_pages.proofs.Counted.{count_marked}
use Rattle.shape_pages.proofs.claim_page.Goals as goal
use Rattle.shape_pages.proofs.claim_page.Goals.{After-load-free}

-- the count that is read after the mark is that of the image before
counted : (c : After-load-free) → let s = c in c.load-free.result ≡ On.free_count (geometry_of s.args.shape) s.args.image.now
counted c = count_marked (geometry_of c.args.shape) _ _ _ _ c.requires.2 c.mark.ensures c.load-free.ensures.0

pub load-free-requires : goal.load-free-requires
load-free-requires c = omega (arith, c.requires.0.count, c.mark.auto.image)

pub overflow_sub-free : goal.overflow_sub-free
overflow_sub-free c = omega (arith, counted c.before, c.requires.1)

pub store-requires : goal.store-requires
store-requires c =
    let s = c in
    (omega (arith, s.requires.0.count, c.mark.auto.image), fits_le (geometry_of s.args.shape).count _ _ (omega arith) c.load-free.ensures.1)

pub set_link-requires : goal.set_link-requires
set_link-requires c =
    let s = c in
    (omega (arith, s.requires.0.link, c.mark.auto.image, c.store.auto.image), fits_byte ((geometry_of s.args.shape).link s.args.page.0) _ (omega arith))

pub returns : goal.returns
returns c =
    claimed_stored (geometry_of c.args.shape) _ _ _ _ _ (counted c.before.before.before.before.before.before.before.before.before) _ c.mark.ensures
    c.store.ensures c.set_link.ensures
