-- Length, digits, day and time are the model's conditions, and the first that fails decides.
use Rattle.dates.proofs.Parts.{wrong_length, wrong_digits, wrong_day, right_day}
use Rattle.dates.proofs.good_date.Goals as goal

pub returns-then-date-ne8 : goal.returns-then-date-ne8
returns-then-date-ne8 c = search wrong_length

pub returns-then-not-all_bcd : goal.returns-then-not-all_bcd
returns-then-not-all_bcd c = search wrong_digits

pub returns-then-not-is_day : goal.returns-then-not-is_day
returns-then-not-is_day c = search wrong_day

pub returns : goal.returns
returns c = search right_day
