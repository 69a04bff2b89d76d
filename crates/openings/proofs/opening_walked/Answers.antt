-- Each test is a line of the call, in the lines' order; past them the walk of the parents leads to the last name's directory.
use Rattle.openings.proofs.Openings.{no_path_lem, bad_date, root_taken, whole}
use Rattle.places.proofs.Places.{two}
use Rattle.fields.proofs.Plain.{told}
use Rattle.openings.proofs.opening_walked.Goals as goal

pub returns-then-not-is_path : goal.returns-then-not-is_path
returns-then-not-is_path c = (tt, search no_path_lem)

pub returns-then-not-good_date : goal.returns-then-not-good_date
returns-then-not-good_date c = (tt, search bad_date)

pub returns-then-path-eq1 : goal.returns-then-path-eq1
returns-then-path-eq1 c = (tt, search root_taken)

pub walk_parents-requires : goal.walk_parents-requires
walk_parents-requires c = (search whole, search two, search told)
