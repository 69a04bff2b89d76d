-- The opening decides, then the count of free pages; what is made in the opening is what the model makes.
use Rattle.makes2.proofs.Makes.{opens, name_fits, size_small, date_long, make_short, make_fillable, name_long, make_filled}
use Rattle.arrivals.proofs.Makes.{make_refused}
use Rattle.outcomes.proofs.Exits.{told_on}
use Rattle.judge2.proofs.Image.{count_lies}
use Rattle.fields.proofs.Plain.{arith}
use Rattle.makes2.proofs.make.Goals as goal

pub returns-in_err-opening : goal.returns-in_err-opening
returns-in_err-opening c =
    let whole = make_refused _ _ _ _ _ _ _ c.in_err-opening.ensures.1 in
    record { result_value = told_on _ _ _ _ c.from_residual.ensures.1 whole.0; image_after = whole.1 }

pub load-requires : goal.load-requires
load-requires c =
    let found = let a = c.args in opens a.image.now a.path.now a.date.now c.in_ok-opening.opening c.in_ok-opening.ensures in
    count_lies found.known.formed

pub returns-then-load-wanted : goal.returns-then-load-wanted
returns-then-load-wanted c =
    let found = let a = c.args in opens a.image.now a.path.now a.date.now c.in_ok-opening.opening c.in_ok-opening.ensures in
    let whole = make_short found c.load.ensures.0 c.pages_wanted-wanted.ensures _ _ (omega arith) in
    record { result_value = whole.0; image_after = whole.1 }

pub slice_bounds-pad-count : goal.slice_bounds-pad-count
slice_bounds-pad-count c =
    let found = let a = c.args in opens a.image.now a.path.now a.date.now c.in_ok-opening.opening c.in_ok-opening.ensures in
    found.inside

pub slice_bounds-pad-start : goal.slice_bounds-pad-start
slice_bounds-pad-start c =
    let found = let a = c.args in opens a.image.now a.path.now a.date.now c.in_ok-opening.opening c.in_ok-opening.ensures in
    found.inside

pub pad-name-requires : goal.pad-name-requires
pad-name-requires c =
    let found = let a = c.args in opens a.image.now a.path.now a.date.now c.in_ok-opening.opening c.in_ok-opening.ensures in
    name_fits found

pub overflow_mul-size : goal.overflow_mul-size
overflow_mul-size c =
    let found = let a = c.args in opens a.image.now a.path.now a.date.now c.in_ok-opening.opening c.in_ok-opening.ensures in
    omega (arith, size_small found _ c.requires)

pub fill-requires : goal.fill-requires
fill-requires c =
    let found = let a = c.args in opens a.image.now a.path.now a.date.now c.in_ok-opening.opening c.in_ok-opening.ensures in
    let free = c.load.ensures.0 in
    let wants = c.pages_wanted-wanted.ensures in
    (make_fillable found free wants (omega arith), name_long found free wants (omega arith) c.pad-name.ensures, date_long found, size_small found _ c.requires)

pub returns : goal.returns
returns c =
    let found = let a = c.args in opens a.image.now a.path.now a.date.now c.in_ok-opening.opening c.in_ok-opening.ensures in
    let whole = make_filled found c.load.ensures.0 c.pages_wanted-wanted.ensures (omega arith) c.pad-name.ensures _ _ c.fill.ensures in
    record { result_value = whole.0; image_after = whole.1 }
