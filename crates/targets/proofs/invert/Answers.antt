-- Each turn numbers one page, as `numbered` does.
use Rattle.proposals.proofs.Numbers.{turned_turn, turned_last, place_under, turned_first}
use Prim.Native.Nat.{◌≤◌}
use native.Mathlib.Omega.{arith}
use lib.ListN.{length}
use Rattle.targets.proofs.invert.Goals as goal

pub loop-p-init : goal.loop-p-init
loop-p-init c = turned_first _ _

pub overflow_cast-pages : goal.overflow_cast-pages
overflow_cast-pages c = omega (arith, c.loop-p-test.true, c.requires.1)

pub bounds-pages-from : goal.bounds-pages-from
bounds-pages-from c =
    let test = c in
    let turn = test in
    let start = turn in
    let l = place_under start.args.places.now (length start.args.pages.now) _ start.requires.0 test.loop-p-test.true in
    omega (arith, l, c.from.ensures, turn.loop-p.invariant.long)

pub loop-p-preserved : goal.loop-p-preserved
loop-p-preserved c = turned_turn _ _ _ _ _ c.loop-p-test.true c.from.ensures c.loop-p.invariant

pub shape_of-pages : goal.shape_of-pages
shape_of-pages c = c.loop-p.invariant.long

pub returns : goal.returns
returns c =
    let turn = c in
    let start = turn in
    let l : length start.args.places.now ≤ turn.loop-p.p = omega arith in
    turned_last _ _ _ _ l turn.loop-p.invariant
