-- Each test is one of the length's conditions, and the first that fails decides.
use Rattle.fields.proofs.Plain.{tests}
use Rattle.volume.specs.Lists.{all}
use Rattle.model.specs.Layout.{valid_length}
use Rattle.fields.proofs.length_is_allowed.Goals as goal

pub returns-then-bytes-ne0 : goal.returns-then-bytes-ne0
unfolding valid_length all
returns-then-bytes-ne0 c = search tests

pub returns-then-bytes-lt2048 : goal.returns-then-bytes-lt2048
unfolding valid_length all
returns-then-bytes-lt2048 c = search tests

pub returns : goal.returns
unfolding valid_length all
returns c = search tests
