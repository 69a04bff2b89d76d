-- Hour, minute and second, each by its own test; the first that fails decides.
use Rattle.dates.proofs.Parts.{first_no, first_yes}
use Rattle.dates.proofs.is_time.Goals as goal

pub returns-then-not-bcd_between : goal.returns-then-not-bcd_between
returns-then-not-bcd_between c = search first_no

pub returns-then-not-bcd_between-2 : goal.returns-then-not-bcd_between-2
returns-then-not-bcd_between-2 c = search (first_no, first_yes)

pub returns : goal.returns
returns c = search first_yes
