-- The test on the page's number is the model's.
use Rattle.fields.proofs.Plain.{tests}
use Rattle.fields.proofs.entry_count.Goals as goal

pub returns-then-directory-eq0 : goal.returns-then-directory-eq0
returns-then-directory-eq0 c = search tests

pub returns-else-directory-eq0 : goal.returns-else-directory-eq0
returns-else-directory-eq0 c = search tests
