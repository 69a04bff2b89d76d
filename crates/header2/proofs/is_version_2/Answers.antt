-- Each test is one of the two bytes, and the first that fails decides.
use Rattle.fields.proofs.Plain.{tests}
use Rattle.volume.specs.Lists.{all}
use Rattle.model2.specs.Layout.{is_version2}
use Rattle.header2.proofs.is_version_2.Goals as goal

pub returns-then-image-ne90 : goal.returns-then-image-ne90
unfolding is_version2 all
returns-then-image-ne90 c = search tests

pub returns : goal.returns
unfolding is_version2 all
returns c = search tests
