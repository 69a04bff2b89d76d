-- Each turn sets one byte behind those that stand.
use Rattle.laws.proofs.Facts.{valid_sized}
use Rattle.volume.specs.Bytes.{put}
use Rattle.volume.specs.Lists.{up_to}
use Rattle.proposals.specs.Steps.{bits_at}
use Rattle.targets.proofs.Target.{bits_first, bits_turn, bits_last}
use mathlib.Core.Path.{ap, ◌∙◌}
use Prim.Native.Nat.{ℕ, ◌/◌}
use native.Mathlib.Omega.{arith}
use mathlib.Core.List.{map}
use Rattle.targets.proofs.write_bits.Goals as goal

pub loop-k-init : goal.loop-k-init
loop-k-init c = (omega arith, ap (λ (n : ℕ). n / 8) c.requires.0.each, bits_first _ _ _ _ c.requires.2)

pub bits_at-requires : goal.bits_at-requires
bits_at-requires c = (c.requires.0, omega arith, c.requires.1)

pub overflow_cast-stretch : goal.overflow_cast-stretch
overflow_cast-stretch c = omega (arith, c.bits_at.ensures.1)

pub overflow_add-stretch : goal.overflow_add-stretch
overflow_add-stretch c =
    let turn = c in
    let start = turn in
    let s = valid_sized start.args.image.now start.requires.1 in
    omega (arith, s.high, turn.loop-k.invariant.1)

pub bounds-stretch-k : goal.bounds-stretch-k
bounds-stretch-k c =
    let turn = c in
    let start = turn in
    let s = valid_sized start.args.image.now start.requires.1 in
    omega (arith, s.high, turn.loop-k.invariant.1, turn.loop-k.invariant.2.long)

pub loop-k-preserved : goal.loop-k-preserved
loop-k-preserved c =
    let test = c in
    let turn = test in
    let start = turn in
    let s = valid_sized start.args.image.now start.requires.1 in (
      omega arith,
      turn.loop-k.invariant.1,
      bits_turn _ _ _ _ _ _ _ (omega (arith, s.high, turn.loop-k.invariant.1))
          test.loop-k-test.true c.bits_at.ensures.0 turn.loop-k.invariant.2,
    )

pub shape_of-stretch : goal.shape_of-stretch
shape_of-stretch c = omega (arith, c.loop-k.invariant.2.long, c.requires.2)

pub returns : goal.returns
returns c =
    let turn = c in
    let start = turn in
    bits_last _ _ _ _ turn.loop-k.k _ (omega arith) turn.loop-k.invariant.2 ∙ ap (λ (n : ℕ). put 4
    (map (bits_at start.args.image.now start.args.pages.now) (up_to n)) start.args.stretch.now) turn.loop-k.invariant.1
