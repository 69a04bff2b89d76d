-- Each turn numbers what `other_at` gives for one page.
use Rattle.model.specs.Layout.{page_count}
use Rattle.proposals.proofs.Numbers.{left_first, left_turn, left_last, others_next, others_none, others_bound}
use mathlib.Core.Path.{◌∙◌}
use Prim.Native.Nat.{◌<◌, ◌≤◌}
use native.Mathlib.Omega.{arith}
use Rattle.tidy.proofs.number_others.Goals as goal

pub loop-p-init : goal.loop-p-init
loop-p-init c = (omega arith, c.requires.1, left_first _ _ _ _)

pub number_other-number-requires : goal.number_other-number-requires
number_other-number-requires c =
    let test = c in
    let turn = test in
    let start = turn in
    let l : turn.loop-p.p < page_count start.args.image.now = omega (arith, start.requires.1, test.loop-p-test.true) in
    (start.requires.0, turn.loop-p.invariant.0, l, turn.loop-p.invariant.2.long ∙ start.requires.1, others_bound _ _ _ _ _ _ start.requires.2 l turn.loop-p.invariant.2)

pub loop-p-preserved : goal.loop-p-preserved
loop-p-preserved c =
    let number-other = c in
    let test = number-other in
    let turn = test in
    let start = turn in
    let l : turn.loop-p.p < page_count start.args.image.now = omega (arith, start.requires.1, test.loop-p-test.true) in (
      omega arith,
      turn.loop-p.invariant.1,
      left_turn _ _ _ _ _ _ _ _ _ _ (others_next _ _ _ l) number-other.number_other-number.ensures.value
          number-other.number_other-number.auto.row number-other.number_other-number.ensures.row_after turn.loop-p.invariant.2,
    )

pub shape_of-row : goal.shape_of-row
shape_of-row c = c.loop-p.invariant.2.long

pub returns : goal.returns
returns c =
    let turn = c in
    let start = turn in
    let l : page_count start.args.image.now ≤ turn.loop-p.p = omega (arith, start.requires.1, c.loop-p-test.false) in
    (left_last _ _ _ _ _ _ _ (others_none _) l turn.loop-p.invariant.2).1
