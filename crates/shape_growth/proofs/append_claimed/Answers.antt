-- `append_claimed` claims the page that the search answers, which is the lowest free one; there is one, so the other answer is not given.
use Rattle.fields.proofs.Plain.{◌≡◌, sym, ap, ◌∙◌, arith}
use Rattle.volume.specs.Field.{store}
use Rattle.volume.specs.Geometry as On
use Rattle.volume.proofs.Growing.{lowest_in, lowest_present}
use Rattle.shape.specs.Geometry.{field_of, geometry_of}
use Rattle.shape_bitmap.specs.Lowest.{number_of}
use Rattle.shape_growth.proofs.append_claimed.Goals as goal

pub lowest_free_from-requires : goal.lowest_free_from-requires
lowest_free_from-requires c = (c.requires.0.words, c.requires.1)

pub returns-in_default : goal.returns-in_default
returns-in_default c =
    let none : ⊥ = let s = c in
    omega (arith, lowest_in s.requires.0, ap (number_of s.args.n) c.in_default.is, c.lowest_free_from.ensures.number) in
    absurd none

pub claim_page-requires : goal.claim_page-requires
claim_page-requires c =
    let found : (let s = c in c.in-Some.page.0 ≡ On.lowest_free (geometry_of s.args.shape) s.args.n s.args.image.now) = ap (number_of _) (sym c.in-Some.is) ∙ c.lowest_free_from.ensures.number in
    let s = c in
    (lowest_present s.requires.0 found, s.requires.0.counted, s.requires.0.lawful.order)

pub store-requires : goal.store-requires
store-requires c =
    let found : (let s = c in c.in-Some.page.0 ≡ On.lowest_free (geometry_of s.args.shape) s.args.n s.args.image.now) = ap (number_of _) (sym c.in-Some.is) ∙ c.lowest_free_from.ensures.number in
    let s = c in
    (omega (arith, s.requires.0.room.held.inside, c.claim_page.auto.image), s.requires.0.fits _ (omega (arith, found, lowest_in s.requires.0)))

pub returns : goal.returns
returns c =
    let found : (let s = c in c.in-Some.page.0 ≡ On.lowest_free (geometry_of s.args.shape) s.args.n s.args.image.now) = ap (number_of _) (sym c.in-Some.is) ∙ c.lowest_free_from.ensures.number in
    let s = c in
    let p = found in
    (p, c.store.ensures ∙ ap (store (field_of s.args.joint) _) c.claim_page.ensures)
