-- Document 01, "A slot": dates. Century, year in century, month, day, weekday, hour, minute, second: a byte of two BCD digits each.
-- Paper 02 §3: the day is one of the Gregorian calendar, in every year from 0000, a leap year, to 9999. Nothing is asked of the weekday.
use Rattle.std.specs.Prelude.{ℕ, ◌+◌, ◌*◌, ◌/◌, ◌%◌, Bool, not, ◌&&◌, ◌||◌, [], ◌∷◌, length, eqb, leb, if◌then◌else◌}
use Rattle.volume.specs.Bytes.{Bytes, byte_at}
use Rattle.volume.specs.Lists.{all, member, conditions}

-- both half bytes are 0 to 9
unfoldable pub is_bcd : ℕ → Bool
is_bcd x = leb (x / 16) 9 && leb (x % 16) 9

-- the number that two BCD digits mean
unfoldable pub bcd : ℕ → ℕ
bcd x = x / 16 * 10 + x % 16

unfoldable pub between : ℕ → ℕ → ℕ → Bool
between low high x = leb low x && leb x high

-- ---- the calendar, paper 02 §3

-- divisible by 4, and not by 100 unless by 400
unfoldable pub is_leap : ℕ → Bool
is_leap year = eqb (year % 4) 0 && (not (eqb (year % 100) 0) || eqb (year % 400) 0)

-- the days of a month: of February 28, or 29 in a leap year; of April, June, September and November 30; of any other 31
unfoldable pub days_in : (year month : ℕ) → ℕ
days_in year month =
    if eqb month 2 then (if is_leap year then 29 else 28) else
    (if member month (4 ∷ 6 ∷ 9 ∷ 11 ∷ []) then 30 else 31)

-- ---- a date's bytes

abbrev pub year_of : Bytes → ℕ
year_of d = bcd (byte_at d 0) * 100 + bcd (byte_at d 1)

abbrev pub month_of : Bytes → ℕ
month_of d = bcd (byte_at d 2)

unfoldable pub good_date : Bytes → Bool
good_date d = conditions (
    eqb (length d) 8
    ∷ all is_bcd d
    ∷ between 1 12 (month_of d)
    ∷ between 1 (days_in (year_of d) (month_of d)) (bcd (byte_at d 3))  -- day
    ∷ between 0 23 (bcd (byte_at d 5))  -- hour
    ∷ between 0 59 (bcd (byte_at d 6))  -- minute
    ∷ between 0 59 (bcd (byte_at d 7))  -- second
    ∷ [])
