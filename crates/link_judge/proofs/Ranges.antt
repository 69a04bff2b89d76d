-- The tests of a row's range.
use mathlib.Core.Path.{◌≡◌, refl, ap}
use mathlib.Core.Bool.{Bool, true, false, ◌&&◌}
use Prim.Native.Nat.{ℕ, suc, ◌-◌, ◌*◌, ◌^◌, ◌≤◌, ◌<◌}
use native.Mathlib.Nat.{pow-suc, pow-le-pow_right}
use native.Mathlib.Omega.{arith}
use lib.Dec.{leb, ltb}
use borrow.Author.Tests.{lt-ltb, le-ltb, le-leb, lt-leb}
use Rattle.volume.specs.Lists.{all}
use Rattle.link_list.specs.declared.Row.{Row}
use Rattle.link_list.specs.Coding.{in_range}

-- ---- powers of ten

pub ten_more : (k r : ℕ) → (k ≡ 0 → ⊥) → r ≡ 10 ^ (k - 1) → 10 * r ≡ 10 ^ k
ten_more k r z e =
    let p : 10 ^ k ≡ 10 ^ suc (k - 1) = let s : k ≡ suc (k - 1) = omega arith in ap (λ (m : ℕ). 10 ^ m) s in
    omega (arith, p, pow-suc 10 (k - 1), e)

pub ten_small : (k r : ℕ) → k ≤ 16 → r ≡ 10 ^ (k - 1) → r ≤ 1000000000000000
ten_small k r l e =
    let p : 10 ^ (k - 1) ≤ 10 ^ 15 = pow-le-pow_right (omega arith) {i = k - 1} {j = 15} (omega arith) in
    omega (arith, p, e)

-- ---- the range

and_false : (a : Bool) → (a && false) ≡ false
and_false true = refl
and_false false = refl

module _ (r : Row) where
  pub range_low : r.count < 1 → in_range r ≡ false
  unfolding in_range all
  range_low h = rw (lt-leb 1 r.count h)

  pub range_high : 16 < r.count → in_range r ≡ false
  unfolding in_range all
  range_high h = rw (lt-leb r.count 16 h) (and_false (leb 1 r.count))

  pub range_value : 10 ^ r.count ≤ r.value → in_range r ≡ false
  unfolding in_range all
  range_value h = rw (le-ltb r.value (10 ^ r.count) h, and_false (leb r.count 16)) (and_false (leb 1 r.count))

  and-true : (a : Bool) → (a && true) ≡ a
  and-true true = refl
  and-true false = refl

  pub range_figure : 1 ≤ r.count → r.count ≤ 16 → r.value < 10 ^ r.count → in_range r ≡ ltb r.figure (2 ^ 32)
  unfolding in_range all
  range_figure l h v =
      rw (le-leb 1 r.count l, le-leb r.count 16 h, lt-ltb r.value (10 ^ r.count) v) (and-true (ltb r.figure (2 ^ 32)))
