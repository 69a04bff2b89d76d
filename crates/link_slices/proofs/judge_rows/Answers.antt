-- The rows that are left, judged from the state so far, come to what all rows come to.
use native.Mathlib.Omega.{arith}
use mathlib.Core.Path.{ap, ◌∙◌}
use Rattle.link_judge.specs.declared.Judged.{Judged}
use Rattle.link_judge.specs.Judged.{judged_from}
use Rattle.link_slices.proofs.Turns.{judged_turn, judged_last}
use Rattle.link_slices.proofs.judge_rows.Goals as goal

pub loop-i-init : goal.loop-i-init
loop-i-init c = ap (λ (j : Judged). judged_from 0 j c.args.rows.now) c.fresh-state.ensures

pub loop-i-preserved : goal.loop-i-preserved
loop-i-preserved c = judged_turn c.args.rows.now c.loop-i.i _ c.loop-i-test.true c.loop-i.state _ c.judge_row-state.ensures ∙ c.loop-i.invariant

pub returns : goal.returns
returns c = judged_last c.args.rows.now c.loop-i.i (omega (arith, c.loop-i-test.false)) c.loop-i.state ∙ c.loop-i.invariant
