-- February by the year; else the arm of the months of 30 days, or that of all others.
use Rattle.dates.proofs.Months.{leap_february, other_february, short, long}
use Rattle.dates.proofs.days_in.Goals as goal

pub returns-then-is_leap : goal.returns-then-is_leap
returns-then-is_leap c = search leap_february

pub returns-else-is_leap : goal.returns-else-is_leap
returns-else-is_leap c = search other_february

pub returns-in-4 : goal.returns-in-4
returns-in-4 c = search short

pub returns-in_default : goal.returns-in_default
returns-in_default c = search long
