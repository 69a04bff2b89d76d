-- `release_page` does the stores of its definition in their order; the contract says that one more than the count fits where the count stands.
use Rattle.fields.proofs.Plain.{arith}
use Rattle.volume.proofs.Stores.{released_stored, fits_small}
use Rattle.shape.specs.Geometry.{geometry_of}
use Rattle.shape_pages.proofs.release_page.Goals as goal

pub overflow_add-free : goal.overflow_add-free
overflow_add-free c = omega (arith, fits_small (geometry_of c.args.shape).count _ c.load-free.ensures.1)

pub store-requires : goal.store-requires
store-requires c =
    let s = c in
    (omega (arith, s.requires.0.count, c.unmark.auto.image), rw c.load-free.ensures.0 s.requires.1)

pub returns : goal.returns
returns c = released_stored (geometry_of c.args.shape) _ _ _ _ _ c.load-free.ensures.0 c.unmark.ensures c.store.ensures
