-- Each turn takes one number off the row, as `takes` does.
use Rattle.proposals.proofs.Check.{takes_past, takes_twice, takes_new, takes_end}
use mathlib.Core.Path.{sym, ◌∙◌}
use Prim.Native.Nat.{◌≤◌}
use native.Mathlib.Omega.{arith}
use lib.ListN.{length, length-set}
use Rattle.proposals.proofs.takes_places.Goals as goal

pub returns-then-q-seen : goal.returns-then-q-seen
returns-then-q-seen c = sym (takes_past _ _ _ _ c.loop-place-test.true c.from-q.ensures c.if-q-seen.true) ∙ c.loop-place.invariant.1

pub returns-then-seen-q-ne0 : goal.returns-then-seen-q-ne0
returns-then-seen-q-ne0 c = sym (takes_twice _ _ _ _ c.loop-place-test.true c.from-q.ensures (omega arith) c.if-seen-q-ne0.true) ∙ c.loop-place.invariant.1

pub loop-place-preserved : goal.loop-place-preserved
loop-place-preserved c =
    (simp length-set c.loop-place.invariant.0, sym (takes_new _ _ _ _ c.loop-place-test.true c.from-q.ensures (omega arith) (omega arith)) ∙ c.loop-place.invariant.1)

pub returns : goal.returns
returns c =
    let all : length c.args.places.now ≤ c.loop-place.place-index = omega arith in
    sym (takes_end _ _ _ all) ∙ c.loop-place.invariant.1
