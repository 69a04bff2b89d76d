-- The libraries' words that function proofs use, from one place; and what an answer that was tested says of what it is.
pub use borrow.Author.Rules.{rules}
pub use borrow.Author.Tests.{lt-ltb, le-ltb, le-leb, lt-leb, eq-eqb, ne_eqb, not-true, not-false}
pub use native.Mathlib.Omega.{arith}
pub use mathlib.Core.Path.{◌≡◌, refl, sym, ap, ap₂, subst, ◌∙◌}
pub use mathlib.Core.Bool.{Bool, true, false, not, ◌&&◌, and-true}
pub use mathlib.Core.Logic.{⊎_elim}
pub use Prim.Native.Nat.{ℕ, min, max, ◌+◌, ◌*◌, ◌-◌, ◌/◌, ◌%◌, ◌^◌, ◌≤◌, ◌<◌}
pub use lib.ListN.{length, drop, get_or, replicate, length-set}
pub use lib.Dec.{eqb}

-- a condition of the model, by the test of the code
pub ruleset tests = (eq-eqb, ne_eqb, lt-ltb, le-ltb, le-leb, lt-leb, and-true)

pub told : {r s : Bool} → r ≡ s → not r ≡ false → s ≡ true
told {r} e h = sym e ∙ not-false r h

pub untold : {r s : Bool} → r ≡ s → not r ≡ true → s ≡ false
untold {r} e h = sym e ∙ not-true r h
