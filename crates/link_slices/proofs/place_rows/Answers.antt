-- The rows that are left, put behind those before, are all rows put at the front.
use native.Mathlib.Omega.{arith}
use mathlib.Core.Path.{◌≡◌, refl, ap, ◌∙◌}
use Prim.Native.Nat.{ℕ, ◌-◌}
use lib.ListN.{length-set}
use Rattle.link_slices.proofs.Readings.{filled, filled_placed}
use Rattle.link_slices.proofs.Turns.{filled_turn, filled_last}
use Rattle.link_slices.proofs.place_rows.Goals as goal

pub loop-i-init : goal.loop-i-init
loop-i-init c = let whole : c.args.count - 0 ≡ c.args.count = omega arith in (refl, ap (λ (n : ℕ). filled c.args.file.now n 0 0 c.args.rows.now) whole)

pub loop-i-preserved : goal.loop-i-preserved
loop-i-preserved c =
    let inv = c.loop-i.invariant in
    (length-set _ _ _ ∙ inv.0, filled_turn c.args.file.now c.args.count c.loop-i.i c.loop-i.at c.loop-i.rows _ c.row_from-step.ensures c.loop-i-test.true ∙ inv.1)

pub returns : goal.returns
returns c =
    let inv = c.loop-i.invariant in
    filled_last c.args.file.now c.args.count c.loop-i.i c.loop-i.at c.loop-i.rows (omega (arith, c.loop-i-test.false)) ∙ inv.1
    ∙ filled_placed c.args.file.now c.args.count c.args.rows.now c.requires
