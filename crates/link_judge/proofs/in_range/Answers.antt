-- Each test of `in_range` is one of the conditions, in their order.
use Rattle.link_judge.proofs.Ranges.{range_low, range_high, range_value, range_figure}
use native.Mathlib.Omega.{arith}
use mathlib.Core.Path.{sym}
use Rattle.link_judge.proofs.in_range.Goals as goal

pub returns-then-count-lt1 : goal.returns-then-count-lt1
returns-then-count-lt1 c = sym (range_low c.args.row c.if-count-lt1.true)

pub returns-then-count-gt16 : goal.returns-then-count-gt16
returns-then-count-gt16 c = sym (range_high c.args.row c.if-count-gt16.true)

pub returns-then-power_of_ten-row : goal.returns-then-power_of_ten-row
returns-then-power_of_ten-row c = sym (range_value c.args.row (omega (arith, c.if-power_of_ten-row.true, c.power_of_ten.ensures)))

pub returns : goal.returns
returns c =
    let at-power-of-ten = c in
    let at-if2 = at-power-of-ten in
    let at-if1 = at-if2 in
    let start = at-if1 in
    sym (range_figure start.args.row (omega (arith, at-if1.if-count-lt1.false)) (omega (arith, at-if2.if-count-gt16.false)) (omega (arith, c.if-power_of_ten-row.false, at-power-of-ten.power_of_ten.ensures)))
