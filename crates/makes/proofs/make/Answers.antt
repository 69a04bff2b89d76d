-- The opening decides, then the count of free pages; what is made in the opening is what the model makes.
use Rattle.outcomes.proofs.Exits.{told_on}
use Rattle.makes.proofs.Makes.{name_fits, make_refused, make_lacking, long, can_make, make_done}
use Rattle.fields.proofs.Plain.{rules, arith}
use Rattle.makes.proofs.make.Goals as goal

pub returns-in_err-opening : goal.returns-in_err-opening
returns-in_err-opening c =
    let whole = make_refused _ _ _ _ _ _ c.in_err-opening.ensures.1 in
    record { result_value = told_on _ _ _ _ c.from_residual.ensures.1 whole.0; image_after = whole.1 }

pub free_count-requires : goal.free_count-requires
free_count-requires c = long _ _ _ 0 c.in_ok-opening.ensures.1

pub returns-then-free_count-pages : goal.returns-then-free_count-pages
returns-then-free_count-pages c =
    let whole = make_lacking _ _ _ _ c.in_ok-opening.ensures.1 _ _ (omega arith) in
    record { result_value = whole.0; image_after = whole.1 }

pub pad-name-requires : goal.pad-name-requires
pad-name-requires c = name_fits _ _ c.in_ok-opening.ensures.0.1

pub make_entry-requires : goal.make_entry-requires
make_entry-requires c = can_make _ _ _ _ c.in_ok-opening.ensures.1 (omega arith) _ _ (search rules) c.pad-name.ensures

pub returns : goal.returns
returns c =
    let whole = make_done _ _ _ _ c.in_ok-opening.ensures.1 (omega arith) _ _ c.pad-name.ensures c.make_entry.ensures in
    record { result_value = whole.0; image_after = whole.1 }
