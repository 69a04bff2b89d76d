-- A name that is there is taken; else the lowest vacant entry of its directory is the opening, if there is one.
use Rattle.openings.proofs.Openings.{name_taken, entry_vacant, full_stops, unnamed}
use Rattle.fields.proofs.Plain.{rules}
use Rattle.openings.proofs.opening_named.Goals as goal

pub returns-then-is_some : goal.returns-then-is_some
returns-then-is_some c = (tt, search name_taken)

pub returns-in_err-entry : goal.returns-in_err-entry
returns-in_err-entry c = (search unnamed, search (full_stops, c.in_err-entry.ensures.ok_part, c.in_err-entry.ensures.value))

pub returns : goal.returns
returns c = (search rules, search (entry_vacant, c.in_ok-entry.ensures.ok_part))
