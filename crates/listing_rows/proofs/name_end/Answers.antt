-- The bytes of a name are looked at one by one, up to its first zero.
use Rattle.fields.proofs.Plain.{◌≡◌, ◌+◌, ◌≤◌, arith}
use mathlib.Core.Path.{subst}
use Rattle.listing_rows.specs.Lines.{NameEnds}
use Rattle.listing_rows.proofs.Paths.{searched_first, searched_zero, searched_next, searched_all}
use Rattle.listing_rows.proofs.name_end.Goals as goal

pub loop-to-init : goal.loop-to-init
loop-to-init c = searched_first _ _

pub returns-then-image-to-eq0 : goal.returns-then-image-to-eq0
returns-then-image-to-eq0 c = searched_zero _ _ _ c.requires c.loop-to.invariant (omega arith) c.if-image-to-eq0.true

pub loop-to-preserved : goal.loop-to-preserved
loop-to-preserved c = searched_next _ _ _ c.requires c.loop-to.invariant (omega arith) c.if-image-to-eq0.false

pub returns : goal.returns
returns c =
    let all : c.args.at + 17 ≤ c.loop-to.to = omega arith in
    let end : c.loop-to.to ≡ c.args.at + 17 = omega (arith, c.loop-to.invariant.high) in
    subst (NameEnds c.args.image.now c.args.at) end (searched_all _ _ _ c.requires c.loop-to.invariant all)
