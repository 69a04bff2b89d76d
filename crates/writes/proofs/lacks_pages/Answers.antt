-- More than an image holds is too long; what does not grow needs nothing; else the pages are counted.
use Rattle.writes.proofs.Writings.{too_long, no_longer, longer, pages_rise}
use Rattle.fields.proofs.Plain.{arith}
use Rattle.writes.proofs.lacks_pages.Goals as goal

pub returns-then-bytes-gt65025 : goal.returns-then-bytes-gt65025
returns-then-bytes-gt65025 c = search too_long

pub returns-then-end-size : goal.returns-then-end-size
returns-then-end-size c = search no_longer

pub overflow_sub-result : goal.overflow_sub-result
overflow_sub-result c = rw (c.pages_for-held.ensures, c.pages_for.ensures) (pages_rise _ _ (omega arith))

pub returns : goal.returns
returns c =
    rw (c.pages_for-held.ensures, c.pages_for.ensures, c.free_count.ensures.0)
    (longer _ _ _ _ c.if-end-size.false)
