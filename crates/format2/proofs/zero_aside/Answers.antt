-- `zero_aside` zeroes a page a turn, and those before it are zeroed already.
use Rattle.fields.proofs.Plain.{arith, ◌≡◌, refl, ap, ◌∙◌, ◌*◌, ◌-◌, ℕ}
use Rattle.volume.specs.Bytes.{put, zeros}
use Rattle.format2.proofs.Formats2.{none_zeroed, page_zeroed, page_within}
use Rattle.format2.proofs.zero_aside.Goals as goal

pub loop-page-init : goal.loop-page-init
loop-page-init c = (omega arith, refl, refl, none_zeroed _ _)

pub zero_page-requires : goal.zero_page-requires
zero_page-requires c =
    let inv = c.loop-page.invariant in
    let shape = c.args.shape in
    omega (arith, page_within shape.size c.loop-page.page shape.aside (omega (arith, c.loop-page-test.true, inv.1)), c.requires, inv.2)

pub loop-page-preserved : goal.loop-page-preserved
loop-page-preserved c =
    let inv = c.loop-page.invariant in (
      omega (arith, c.loop-page-test.true, inv.1),
      inv.1,
      c.zero_page.auto.image ∙ inv.2,
      page_zeroed _ _ _ inv.3 c.zero_page.ensures,
    )

pub shape_of-image : goal.shape_of-image
shape_of-image c = c.loop-page.invariant.2

pub returns : goal.returns
returns c =
    let inv = c.loop-page.invariant in
    let last : c.loop-page.page ≡ c.args.shape.aside = omega (arith, inv.0, inv.1, c.loop-page-test.false) in
    inv.3 ∙ ap (λ (n : ℕ). put 0 (zeros (c.args.shape.size * n)) c.args.image.now) last
