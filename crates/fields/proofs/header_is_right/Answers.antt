-- Each test is one of the header's conditions, and the first that fails decides.
use Rattle.fields.proofs.Plain.{rules, tests}
use Rattle.volume.specs.Lists.{all}
use Rattle.model.specs.Layout.{valid_header}
use Rattle.fields.proofs.header_is_right.Goals as goal

pub bounds-image-0 : goal.bounds-image-0
unfolding valid_header all
bounds-image-0 c = search rules

pub returns-then-image-ne90 : goal.returns-then-image-ne90
unfolding valid_header all
returns-then-image-ne90 c = search tests

pub bounds-image-1 : goal.bounds-image-1
unfolding valid_header all
bounds-image-1 c = search rules

pub returns-then-image-ne1 : goal.returns-then-image-ne1
unfolding valid_header all
returns-then-image-ne1 c = search tests

pub bounds-image-2 : goal.bounds-image-2
unfolding valid_header all
bounds-image-2 c = search rules

pub from-requires : goal.from-requires
unfolding valid_header all
from-requires c = search rules

pub page_count-requires : goal.page_count-requires
unfolding valid_header all
page_count-requires c = search rules

pub returns : goal.returns
unfolding valid_header all
returns c = search (tests, c.from.ensures, c.page_count.ensures)
