-- What the search finds is the lowest vacant entry of the view's row.
use Rattle.makes2.proofs.Rooms.{lowest_found}
use Rattle.known2.proofs.Rows.{known_roomy, known_some, housed_lies}
use Rattle.fields.proofs.Plain.{◌∙◌}
use Rattle.makes2.proofs.lowest_vacant.Goals as goal

pub vacant_entry-requires : goal.vacant_entry-requires
vacant_entry-requires c = (search known_roomy, search known_some, search housed_lies)

pub returns : goal.returns
returns c = c.unwrap_or.ensures ∙ lowest_found c.requires.0 _ _ c.vacant_entry.ensures
