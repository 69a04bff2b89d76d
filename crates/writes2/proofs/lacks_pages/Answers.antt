-- More than an image holds is too long; what does not grow needs nothing; else the pages are counted.
use Rattle.writes2.proofs.Lacking.{too_long, no_longer, longer, no_fewer}
use Rattle.writes2.proofs.lacks_pages.Goals as goal

pub returns-then-bytes-gt1048576 : goal.returns-then-bytes-gt1048576
returns-then-bytes-gt1048576 c = search too_long

pub returns-then-end-size : goal.returns-then-end-size
returns-then-end-size c = search no_longer

pub overflow_sub-result : goal.overflow_sub-result
overflow_sub-result c = rw (c.pages_for-held.ensures, c.pages_for.ensures) (no_fewer c.requires _ c.if-end-size.false)

pub returns : goal.returns
returns c = rw (c.pages_for-held.ensures, c.pages_for.ensures, c.load.ensures.0) (longer c.requires _ c.if-end-size.false)
