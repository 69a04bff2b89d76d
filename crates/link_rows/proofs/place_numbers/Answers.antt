-- The numbers placed so far with those of the rows that are left are those of all rows.
use Rattle.link_rows.proofs.Steps.{place_turn, place_end, place_first}
use native.Mathlib.Omega.{arith}
use mathlib.Core.Path.{refl, sym, ◌∙◌}
use lib.ListN.{length-set}
use Rattle.link_rows.proofs.place_numbers.Goals as goal

pub loop-i-init : goal.loop-i-init
loop-i-init c = (refl, place_first _ _ _)

pub loop-i-preserved : goal.loop-i-preserved
loop-i-preserved c =
    let inv = c.loop-i.invariant in
    let turn = place_turn c.args.file.now c.args.count c.loop-i.i _ _ c.loop-i.numbers c.row_from-step.ensures c.loop-i-test.true (omega (arith, inv.0, c.requires)) in
    (simp length-set inv.0, sym turn ∙ inv.1)

pub returns : goal.returns
returns c = sym (place_end c.args.file.now c.args.count _ _ _ c.loop-i-test.false) ∙ c.loop-i.invariant.1
