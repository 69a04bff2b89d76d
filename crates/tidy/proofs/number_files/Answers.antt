-- Each turn numbers what `file_from` gives for one page.
use Rattle.model.specs.Layout.{page_count}
use Rattle.proposals.proofs.Numbers.{left_first, left_turn, left_last, files_next, files_none, files_bound}
use mathlib.Core.Path.{◌∙◌}
use Prim.Native.Nat.{◌<◌, ◌≤◌}
use native.Mathlib.Omega.{arith}
use Rattle.tidy.proofs.number_files.Goals as goal

pub loop-p-init : goal.loop-p-init
loop-p-init c = (omega arith, c.requires.1, left_first _ _ _ _)

pub number_file-next-requires : goal.number_file-next-requires
number_file-next-requires c =
    let test = c in
    let turn = test in
    let start = turn in
    let l : turn.loop-p.p < page_count start.args.image.now = omega (arith, start.requires.1, test.loop-p-test.true) in
    (start.requires.0, turn.loop-p.invariant.0, l, turn.loop-p.invariant.2.long ∙ start.requires.1, files_bound _ _ _ _ _ start.requires.0.is_sound l turn.loop-p.invariant.2)

pub loop-p-preserved : goal.loop-p-preserved
loop-p-preserved c =
    let number-file = c in
    let test = number-file in
    let turn = test in
    let start = turn in
    let l : turn.loop-p.p < page_count start.args.image.now = omega (arith, start.requires.1, test.loop-p-test.true) in (
      omega arith,
      turn.loop-p.invariant.1,
      left_turn _ _ _ _ _ _ _ _ _ _ (files_next _ _ _ l) number-file.number_file-next.ensures.value
          number-file.number_file-next.auto.row number-file.number_file-next.ensures.row_after turn.loop-p.invariant.2,
    )

pub shape_of-row : goal.shape_of-row
shape_of-row c = c.loop-p.invariant.2.long

pub returns : goal.returns
returns c =
    let turn = c in
    let start = turn in
    let l : page_count start.args.image.now ≤ turn.loop-p.p = omega (arith, start.requires.1, c.loop-p-test.false) in
    let whole = left_last _ _ _ _ _ _ _ (files_none _) l turn.loop-p.invariant.2 in
    record { value = whole.0; row_after = whole.1 }
