-- The days of a month, by the arm of the code's `match` that it is in.
use mathlib.Core.Path.{◌≡◌}
use mathlib.Core.Bool.{Bool, true, false}
use mathlib.Core.Logic.{◌⊎◌, inl, inr}
use Prim.Native.Nat.{ℕ}
use borrow.Author.Tests.{ne_eqb}
use Rattle.volume.specs.Lists.{any}
use Rattle.model.specs.Date.{is_leap, days_in}

module _ (year month : ℕ) (e : month ≡ 2) (leap : Bool) (h : leap ≡ is_leap year) where
  pub leap_february : leap ≡ true → 29 ≡ days_in year month
  unfolding days_in
  leap_february l = rw (e, ← h, l)

  pub other_february : leap ≡ false → 28 ≡ days_in year month
  unfolding days_in
  other_february l = rw (e, ← h, l)

pub short : (year month : ℕ) → (month ≡ 4) ⊎ ((month ≡ 6) ⊎ ((month ≡ 9) ⊎ (month ≡ 11))) → 30 ≡ days_in year month
unfolding days_in any
short year month (inl e) = rw e
short year month (inr (inl e)) = rw e
short year month (inr (inr (inl e))) = rw e
short year month (inr (inr (inr e))) = rw e

pub long : (year month : ℕ) → (month ≡ 2 → ⊥) → ((month ≡ 4) ⊎ ((month ≡ 6) ⊎ ((month ≡ 9) ⊎ (month ≡ 11))) → ⊥) → 31 ≡ days_in year month
unfolding days_in any
long year month two h =
    rw (
      ne_eqb month 2 two,
      ne_eqb month 4 (λ e. h (inl e)),
      ne_eqb month 6 (λ e. h (inr (inl e))),
      ne_eqb month 9 (λ e. h (inr (inr (inl e)))),
      ne_eqb month 11 (λ e. h (inr (inr (inr e)))),
    )
