-- The rows that are left, judged from the state so far, come to what all rows come to.
use Rattle.link_judge.proofs.Lists.{judged_first, judged_turn, judged_end}
use mathlib.Core.Path.{sym, ◌∙◌}
use Rattle.link_judge.proofs.judge_numbers.Goals as goal

pub loop-i-init : goal.loop-i-init
loop-i-init c = judged_first _ _ c.fresh-state.ensures

pub loop-i-preserved : goal.loop-i-preserved
loop-i-preserved c =
    let turn = judged_turn c.args.numbers.now _ c.loop-i.i _ _ _ c.loop-i-test.true c.row_of.ensures c.judge_row-state.ensures in
    sym turn ∙ c.loop-i.invariant

pub returns : goal.returns
returns c = sym (judged_end c.args.numbers.now _ _ _ c.loop-i-test.false) ∙ c.loop-i.invariant
