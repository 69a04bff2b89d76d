-- One more than the pages for an entry of the root, two more for any other.
use borrow.Author.Tests.{lt-ltb, le-ltb}
use Rattle.store.proofs.store_count.Goals as goal

pub returns-then-entry-lt256 : goal.returns-then-entry-lt256
returns-then-entry-lt256 c = rw (lt-ltb _ 256 c.if-entry-lt256.true)

pub returns : goal.returns
returns c = rw (le-ltb _ 256 c.if-entry-lt256.false)
