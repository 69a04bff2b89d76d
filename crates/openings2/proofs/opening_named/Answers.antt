-- A name that is there is taken; else the opening is in its directory, in the lowest vacant entry of the view's row, if there is one.
use Rattle.openings2.proofs.Openings.{name_taken, name_new}
use Rattle.known2.proofs.Rows.{known_roomy, known_some, housed_lies}
use borrow.Author.Rules.{rules}
use Rattle.openings2.proofs.opening_named.Goals as goal

pub returns-in-Some : goal.returns-in-Some
returns-in-Some c = (tt, search name_taken)

pub vacant_entry-vacancy-requires : goal.vacant_entry-vacancy-requires
vacant_entry-vacancy-requires c = (search known_roomy, search known_some, search housed_lies)

pub returns : goal.returns
returns c = ((search rules, search rules, search rules), search name_new)
