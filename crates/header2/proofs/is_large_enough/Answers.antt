-- The test on the length decides, or else that on the code.
use Rattle.fields.proofs.Plain.{tests}
use Rattle.header2.proofs.is_large_enough.Goals as goal

pub returns-then-bytes-most : goal.returns-then-bytes-most
returns-then-bytes-most c = search tests

pub returns : goal.returns
returns c = search tests
