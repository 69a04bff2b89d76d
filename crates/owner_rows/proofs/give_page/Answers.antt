-- `give_page` sets what `claim` sets where it says yes.
use Rattle.fields.proofs.Plain.{rules}
use Rattle.owner_rows.proofs.Gives.{page_low, page_given}
use Rattle.owner_rows.proofs.give_page.Goals as goal

pub offset_bounds-row-p : goal.offset_bounds-row-p
offset_bounds-row-p c = search (rules, page_low)

pub bounds-row-p : goal.bounds-row-p
bounds-row-p c = search page_low

pub returns : goal.returns
returns c = search page_given
