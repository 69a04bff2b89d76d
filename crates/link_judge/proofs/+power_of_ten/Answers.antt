-- Ten to k is ten times ten to k − 1; up to 16 it fits.
use Rattle.link_judge.proofs.Ranges.{ten_more, ten_small}
use native.Mathlib.Omega.{arith}
use mathlib.Core.Path.{◌≡◌, sym, ap}
use Prim.Native.Nat.{◌^◌, ℕ}
use Rattle.link_judge.proofs.+power_of_ten.Goals as goal

pub returns-then-k-eq0 : goal.returns-then-k-eq0
returns-then-k-eq0 t c = let e : 10 ^ c.args.k ≡ 10 ^ 0 = ap (λ (k : ℕ). 10 ^ k) c.if-k-eq0.true in sym e

pub overflow_mul-result : goal.overflow_mul-result
overflow_mul-result t c = let small = ten_small c.args.k _ c.requires c.power_of_ten.ensures in omega (arith, small)

pub returns : goal.returns
returns t c = ten_more c.args.k _ c.if-k-eq0.false c.power_of_ten.ensures
