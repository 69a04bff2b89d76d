-- `append` takes the page that the search answers, which is the lowest free one; there is one, so the other answer is not given.
use Rattle.fields.proofs.Plain.{◌≡◌, sym, ap, ◌∙◌, arith}
use Rattle.volume.specs.Geometry as On
use Rattle.volume.proofs.Growing.{lowest_in, lowest_present, added_stored}
use Rattle.shape.specs.Geometry.{geometry_of}
use Rattle.shape_bitmap.specs.Lowest.{number_of}
use Rattle.shape_growth.proofs.append.Goals as goal

pub lowest_free_from-requires : goal.lowest_free_from-requires
lowest_free_from-requires c = (c.requires.0.words, c.requires.1)

pub returns-in_default : goal.returns-in_default
returns-in_default c =
    let none : ⊥ = let s = c in
    omega (arith, lowest_in s.requires.0, ap (number_of s.args.n) c.in_default.is, c.lowest_free_from.ensures.number) in
    absurd none

pub take_page-requires : goal.take_page-requires
take_page-requires c =
    let found : (let s = c in c.in-Some.page.0 ≡ On.lowest_free (geometry_of s.args.shape) s.args.n s.args.image.now) = ap (number_of _) (sym c.in-Some.is) ∙ c.lowest_free_from.ensures.number in
    let s = c in
    (lowest_present s.requires.0 found, s.requires.0.counted, s.requires.0.lawful.order)

pub store-requires : goal.store-requires
store-requires c =
    let found : (let s = c in c.in-Some.page.0 ≡ On.lowest_free (geometry_of s.args.shape) s.args.n s.args.image.now) = ap (number_of _) (sym c.in-Some.is) ∙ c.lowest_free_from.ensures.number in
    let s = c in
    (omega (arith, s.requires.0.room.held.inside, c.take_page.auto.image), s.requires.0.fits _ (omega (arith, found, lowest_in s.requires.0)))

pub returns : goal.returns
returns c =
    let found : (let s = c in c.in-Some.page.0 ≡ On.lowest_free (geometry_of s.args.shape) s.args.n s.args.image.now) = ap (number_of _) (sym c.in-Some.is) ∙ c.lowest_free_from.ensures.number in
    let s = c in
    let p = found in
    (p, added_stored (geometry_of s.args.shape) _ _ _ _ _ _ p c.take_page.ensures c.store.ensures)
