-- The counts decide, and where they are equal the values.
use Rattle.link_judge.proofs.Orders.{above_lower, above_higher, above_same}
use mathlib.Core.Path.{sym}
use Rattle.link_judge.proofs.is_above.Goals as goal

pub returns-then-low-high : goal.returns-then-low-high
returns-then-low-high c = sym (above_lower c.args.low c.args.high c.if-low-high.true)

pub returns-then-low-high-2 : goal.returns-then-low-high-2
returns-then-low-high-2 c =
    let at-if1 = c in
    let start = at-if1 in
    sym (above_higher start.args.low start.args.high at-if1.if-low-high.false c.if-low-high-2.true)

pub returns : goal.returns
returns c =
    let at-if2 = c in
    let at-if1 = at-if2 in
    let start = at-if1 in
    sym (above_same start.args.low start.args.high at-if1.if-low-high.false at-if2.if-low-high-2.false)
