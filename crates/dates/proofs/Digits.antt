-- The half bytes of a byte, as each return of `is_bcd` has tested the high one: it is no digit, or it is one and the low one decides.
use mathlib.Core.Path.{◌≡◌}
use mathlib.Core.Bool.{false}
use Prim.Native.Nat.{ℕ, ◌/◌, ◌%◌, ◌≤◌, ◌<◌}
use lib.Dec.{leb}
use borrow.Author.Tests.{le-leb, lt-leb}
use Rattle.model.specs.Date.{is_bcd}

pub high_wrong : (x : ℕ) → 9 < x / 16 → false ≡ is_bcd x
unfolding is_bcd
high_wrong x h = simp (lt-leb _ _ h)

pub high_right : (x : ℕ) → x / 16 ≤ 9 → leb (x % 16) 9 ≡ is_bcd x
unfolding is_bcd
high_right x h = simp (le-leb _ _ h)
