-- Both sides of the comparison are what the calls ensure.
use lib.Dec.{ltb}
use Rattle.store.proofs.lacks_pages.Goals as goal

pub returns : goal.returns
returns c = λ i. ltb (c.free_count.ensures.0 i) (c.pages_for.ensures i)
