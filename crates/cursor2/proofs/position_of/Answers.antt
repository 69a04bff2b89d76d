-- `position_of` adds up where the cursor's page begins and its steps of 32, which lie on the page.
use Rattle.fields.proofs.Plain.{arith}
use Rattle.cursor2.proofs.Seeking.{page_lies, number_few, entry_in}
use Rattle.cursor2.proofs.position_of.Goals as goal

pub entries_start-requires : goal.entries_start-requires
entries_start-requires c = (c.requires.0, omega (arith, page_lies c.requires.1, c.shared_slice_known-1.given 0))

pub overflow_mul-result : goal.overflow_mul-result
overflow_mul-result c = omega (arith, number_few c.requires.1 c.requires.0)

pub overflow_add-result : goal.overflow_add-result
overflow_add-result c = omega (arith, c.entries_start.ensures, entry_in c.requires.1 c.requires.0, c.shared_slice_known-1.given 0)

pub returns : goal.returns
returns c = (omega (arith, c.entries_start.ensures), omega (arith, c.entries_start.ensures, entry_in c.requires.1 c.requires.0))
