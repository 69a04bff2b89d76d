-- A good date is eight bytes of digits, a day and a time: the model's conditions in their order, bracketed as the code tests them.
use mathlib.Core.Path.{◌≡◌, sym, ◌∙◌}
use mathlib.Core.Logic.{◌≢◌}
use mathlib.Core.Bool.{Bool, true, false, not, ◌&&◌, and-true, and_assoc}
use Prim.Native.Nat.{ℕ}
use lib.ListN.{length}
use borrow.Author.Tests.{eq-eqb, ne_eqb, not-true, not-false}
use Rattle.volume.specs.Bytes.{Bytes, byte_at}
use Rattle.volume.specs.Lists.{all}
use Rattle.model.specs.Date.{bcd, between, days_in, year_of, month_of, is_bcd, good_date}
use Rattle.dates.specs.Parts.{good_day, good_time}

pub wrong_length : (d : Bytes) → length d ≢ 8 → false ≡ good_date d
unfolding good_date all
wrong_length d h = rw (ne_eqb (length d) 8 h)

-- the answers for the digits and for the day
module _ (d : Bytes) (long : length d ≡ 8) (digits : Bool) (bcd : digits ≡ all is_bcd d) where
  parts : good_date d ≡ (digits && (good_day d && good_time d))
  unfolding good_date all
  parts = rw (eq-eqb (length d) 8 long, and-true, and_assoc, ← bcd)

  pub wrong_digits : not digits ≡ true → false ≡ good_date d
  wrong_digits t = sym (parts ∙ rw (not-true digits t))

  module _ (t : not digits ≡ false) (day : Bool) (good : day ≡ good_day d) where
    pub wrong_day : not day ≡ true → false ≡ good_date d
    wrong_day n = sym (parts ∙ rw (not-false digits t, ← good, not-true day n))

    pub right_day : not day ≡ false → (time : Bool) → time ≡ good_time d → time ≡ good_date d
    right_day n time e = sym (parts ∙ rw (not-false digits t, ← good, not-false day n, e))

-- two tests one after the other: the first answer is r, and it decides where it is no
pub first_no : (r x y : Bool) → r ≡ x → not r ≡ true → false ≡ (x && y)
first_no r x y e t = rw (sym e ∙ not-true r t)

pub first_yes : (r x y : Bool) → r ≡ x → not r ≡ false → (s : Bool) → s ≡ y → s ≡ (x && y)
first_yes r x y e t s h = rw (sym e ∙ not-false r t) h

-- the day's bounds, by the answers for year, month and its last day
pub day_of_month : (d : Bytes) (r : Bool) → r ≡ between 1 12 (month_of d) → not r ≡ false → (year month last : ℕ) → year ≡ year_of d → month ≡ month_of d
    → last ≡ days_in year month → (s : Bool) → s ≡ between 1 last (bcd (byte_at d 3)) → s ≡ good_day d
day_of_month d r e t year month last y m l s h = rw (sym e ∙ not-false r t, ← y, ← m, ← l) h
