-- The month's test decides first, then the day's, up to the last of that month in that year.
use Rattle.dates.proofs.Parts.{first_no, day_of_month}
use Rattle.dates.proofs.is_day.Goals as goal

pub returns-then-not-bcd_between : goal.returns-then-not-bcd_between
returns-then-not-bcd_between c = search first_no

pub returns : goal.returns
returns c = search day_of_month
