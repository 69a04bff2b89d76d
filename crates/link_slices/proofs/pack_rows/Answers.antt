-- The rows that are left, packed behind those before, come to what all rows come to.
use native.Mathlib.Omega.{arith}
use mathlib.Core.Path.{refl, ◌∙◌}
use Rattle.link_slices.proofs.Turns.{packed_turn, packed_last}
use Rattle.link_slices.proofs.pack_rows.Goals as goal

pub loop-row-init : goal.loop-row-init
loop-row-init c = refl

pub loop-row-preserved : goal.loop-row-preserved
loop-row-preserved c = packed_turn c.args.rows.now c.loop-row.row-index _ c.loop-row-test.true c.loop-row.at _ c.loop-row.bytes _ c.pack_row-at.ensures.0 c.pack_row-at.ensures.1 ∙ c.loop-row.invariant

pub returns : goal.returns
returns c = packed_last c.args.rows.now c.loop-row.row-index (omega (arith, c.loop-row-test.false)) c.loop-row.at c.loop-row.bytes ∙ c.loop-row.invariant
