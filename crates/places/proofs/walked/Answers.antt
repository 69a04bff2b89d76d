-- A path is `/`, or the walk of its parents stops, or the last name's place in the directory that they lead to is the path's.
use Rattle.places.proofs.Places.{no_path_lem, at_root, two}
use Rattle.fields.proofs.Plain.{rules, told}
use Rattle.places.proofs.walked.Goals as goal

pub returns-then-not-is_path : goal.returns-then-not-is_path
returns-then-not-is_path c = search no_path_lem

pub returns-then-path-eq1 : goal.returns-then-path-eq1
returns-then-path-eq1 c = search at_root

pub walk_parents-requires : goal.walk_parents-requires
walk_parents-requires c = (search rules, search two, search told)
