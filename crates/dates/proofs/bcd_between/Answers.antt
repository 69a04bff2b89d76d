-- Each test is one of the two bounds, and the number is the one that the digits mean.
use borrow.Author.Rules.{rules}
use borrow.Author.Tests.{le-leb, lt-leb}
use Rattle.model.specs.Date.{between}
use Rattle.dates.proofs.bcd_between.Goals as goal

pub bcd-number-requires : goal.bcd-number-requires
unfolding between
bcd-number-requires c = search rules

pub returns-then-number-low : goal.returns-then-number-low
unfolding between
returns-then-number-low c = search (← c.bcd-number.ensures.0, lt-leb)

pub returns : goal.returns
unfolding between
returns c = search (← c.bcd-number.ensures.0, le-leb)
