-- One place fewer is left for the higher digits. The last one is the remainder, which is the number itself where that has one digit.
use Rattle.listing_lines.proofs.Digits.{poured_none, poured_one, poured_more}
use Rattle.listing_lines.proofs.+pour_digits.Goals as goal

pub returns-then-places-eq0 : goal.returns-then-places-eq0
returns-then-places-eq0 t c = search poured_none

pub returns-then-n-lt10 : goal.returns-then-n-lt10
returns-then-n-lt10 t c = search poured_one

pub returns : goal.returns
returns t c = search poured_more
