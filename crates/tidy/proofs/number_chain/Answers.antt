-- Each turn numbers one page of the chain, as `numbered` does.
use Rattle.proposals.proofs.Numbers.{chain_first, chain_low, chain_turn, chain_last}
use mathlib.Core.Path.{refl}
use Prim.Native.Nat.{◌<◌}
use native.Mathlib.Omega.{arith}
use lib.ListN.{length}
use Rattle.tidy.proofs.number_chain.Goals as goal

pub loop-number-init : goal.loop-number-init
loop-number-init c = chain_first _ _ _ _ _ (omega arith) c.requires.1

pub overflow_cast-row : goal.overflow_cast-row
overflow_cast-row c = omega (arith, c.loop-number.invariant.count, c.requires.2)

pub bounds-row-page : goal.bounds-row-page
bounds-row-page c = chain_low _ _ _ _ _ _ _ _ _ (omega arith) c.loop-number.invariant

pub link-page-requires : goal.link-page-requires
link-page-requires c =
    let low : c.loop-number.page.0 < length c.loop-number.row = chain_low _ _ _ _ _ _ _ _ _ (omega arith) c.loop-number.invariant in
    omega (arith, c.loop-number.invariant.long, c.requires.0)

pub loop-number-preserved : goal.loop-number-preserved
loop-number-preserved c = chain_turn _ _ _ _ _ _ _ _ _ _ (omega arith) (omega arith) c.link-page.ensures.0 c.loop-number.invariant

pub shape_of-row : goal.shape_of-row
shape_of-row c = c.loop-number.invariant.long

pub returns : goal.returns
returns c =
    let whole = chain_last _ _ _ _ _ _ _ _ _ (omega arith) c.loop-number.invariant in
    record { value = refl; row_after = whole.1 }
