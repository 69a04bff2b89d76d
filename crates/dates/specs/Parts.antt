-- The conditions of the model's `good_date` that are not about digits, in two parts. That the day is one of the calendar is asked in `good_day`.
use Rattle.std.specs.Prelude.{Bool, ◌&&◌}
use Rattle.volume.specs.Bytes.{Bytes, byte_at}
use Rattle.model.specs.Date.{bcd, between, days_in, year_of, month_of}

abbrev pub good_day : Bytes → Bool
good_day d = between 1 12 (month_of d) && between 1 (days_in (year_of d) (month_of d)) (bcd (byte_at d 3))

abbrev pub good_time : Bytes → Bool
good_time d = between 0 23 (bcd (byte_at d 5)) && (between 0 59 (bcd (byte_at d 6)) && between 0 59 (bcd (byte_at d 7)))
