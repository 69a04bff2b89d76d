-- `grow_unzeroed` claims one page a turn, with the new page's link as the next joint, and zeroes the last; but for the content of those claimed it makes what
-- growth makes. No answer names the test for no page, so an edit of it is refused for what it then means.
use Rattle.fields.proofs.Plain.{◌≡◌, subst, ℕ, ◌+◌, ◌-◌, ◌<◌, arith}
use Rattle.volume.specs.Bytes.{Bytes}
use Rattle.volume.specs.Field.{Field}
use Rattle.volume.specs.Geometry.{Geometry}
use Rattle.volume.proofs.Claiming.{Claiming, claiming_first, claiming_size, claiming_one, claiming_link, claiming_turn, claiming_last}
use Rattle.shape_bitmap.proofs.Search.{before_first}
use Rattle.shape_growth.proofs.Bytes.{before_claimed}
use Rattle.shape_growth.proofs.grow_unzeroed.Goals as goal

as_many : {g : Geometry} {n count i j : ℕ} {joint₀ joint : Field} {b₀ b : Bytes} → i ≡ j → Claiming g n count joint₀ b₀ i joint b → Claiming g n count joint₀ b₀ j joint b
as_many {g} {n} {count} {joint₀ = joint₀} {joint = joint} {b₀ = b₀} {b = b} e r = subst (λ (m : ℕ). Claiming g n count joint₀ b₀ m joint b) e r

pub loop-init : goal.loop-init
loop-init c = (omega arith, omega arith, claiming_first c.requires.0, before_first _ _ _)

pub append_claimed-page-requires : goal.append_claimed-page-requires
append_claimed-page-requires c = let inv = c.loop.invariant in (claiming_one inv.2 (omega (arith, c.loop-test.true)), inv.3)

pub link_cell-at-requires : goal.link_cell-at-requires
link_cell-at-requires c = omega (arith, claiming_link c.loop.invariant.2 (omega (arith, c.loop-test.true)) c.append_claimed-page.ensures.0)

pub loop-preserved : goal.loop-preserved
loop-preserved c =
    let inv = c.loop.invariant in
    let i = c.loop.counter in
    let then = c.requires.1 in
    let made = c.append_claimed-page.ensures in
    let more : i - 1 < c.args.count = omega (arith, c.loop-test.true) in
    let next : i - 1 + 1 ≡ i + 1 - 1 = omega (arith, inv.0) in
    (omega arith, omega (arith, c.loop-test.true), as_many next (claiming_turn inv.2 more then made.0 c.link_cell-at.ensures made.1), before_claimed (claiming_one inv.2 more) then made.0 made.1)

pub append-requires : goal.append-requires
append-requires c = let inv = c.loop.invariant in (claiming_one inv.2 (omega (arith, inv.0, inv.1)), inv.3)

pub shape_of-image : goal.shape_of-image
shape_of-image c = omega (arith, c.append.auto.image, claiming_size c.loop.invariant.2)

pub returns : goal.returns
returns c =
    let inv = c.loop.invariant in
    claiming_last inv.2 (omega (arith, inv.0, inv.1, c.loop-test.false)) c.append.ensures.1
