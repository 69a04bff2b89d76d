-- `repair` asks for the length, then for the header, and lends a mark of 0 for each page.
use Rattle.fields.proofs.Plain.{arith, rules}
use Rattle.fields.proofs.Plain.{told, untold}
use Rattle.judge.proofs.Image.{allowed, few, marks_length, marks_fresh}
use Rattle.repair.proofs.Mending.{refused_length, refused_header}
use Rattle.repair.proofs.repair.Goals as goal

pub returns-then-not-length_is_allowed : goal.returns-then-not-length_is_allowed
returns-then-not-length_is_allowed c =
    let whole = refused_length _ (untold c.length_is_allowed.ensures c.if-not-length_is_allowed.true-raw) in
    record { result_value = whole.0; image_after = whole.1 }

pub header_is_right-requires : goal.header_is_right-requires
header_is_right-requires c =
    let h = allowed _ (told c.length_is_allowed.ensures c.if-not-length_is_allowed.false-raw) in
    omega arith

pub returns-then-not-header_is_right : goal.returns-then-not-header_is_right
returns-then-not-header_is_right c =
    let whole = refused_header _ (told c.length_is_allowed.ensures c.if-not-length_is_allowed.false-raw)
    (untold c.header_is_right.ensures c.if-not-header_is_right.true-raw) in
    record { result_value = whole.0; image_after = whole.1 }

pub slice_bounds-marks-end : goal.slice_bounds-marks-end
slice_bounds-marks-end c = search (few, told)

pub slice_bounds-mend-end : goal.slice_bounds-mend-end
slice_bounds-mend-end c = search (marks_length, told)

pub mend-requires : goal.mend-requires
mend-requires c =
    let test2 = c in
    let v = told test2.length_is_allowed.ensures test2.if-not-length_is_allowed.false-raw in
    let m = marks_fresh _ _ c.page_count-n.ensures v in
    (v, told test2.header_is_right.ensures test2.if-not-header_is_right.false-raw, m.0, m.1)

pub returns : goal.returns
returns c = record { result_value = search rules; image_after = search rules }
