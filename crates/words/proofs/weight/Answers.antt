-- `weight` shifts 1 by less than 64 places, so nothing is cut off.
use lib.Pow.{pow-lt}
use native.Mathlib.Nat.{mod-eq_of_lt, one-mul}
use Rattle.words.proofs.weight.Goals as goal

pub returns : goal.returns
returns c = rw one-mul (mod-eq_of_lt (pow-lt c.requires))
