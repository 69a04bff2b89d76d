-- `judge_image` asks for the length, then for the header, then for the walk, whose marks are a 0 for each page.
use Rattle.fields.proofs.Plain.{rules, told}
use Rattle.outcomes.proofs.Exits.{told_on}
use Rattle.judge.proofs.Image.{long_enough, few, marks_length, marks_fresh, found_length, found_header, found_fault, found_sound}
use Rattle.judge.proofs.judge_image.Goals as goal

pub returns-then-not-length_is_allowed : goal.returns-then-not-length_is_allowed
returns-then-not-length_is_allowed c = search found_length

pub header_is_right-requires : goal.header_is_right-requires
header_is_right-requires c = search (rules, long_enough)

pub returns-then-not-header_is_right : goal.returns-then-not-header_is_right
returns-then-not-header_is_right c = search found_header

pub slice_bounds-marks-end : goal.slice_bounds-marks-end
slice_bounds-marks-end c = search (few, told)

pub slice_bounds-judge_all-end : goal.slice_bounds-judge_all-end
slice_bounds-judge_all-end c = search (marks_length, told)

pub judge_all-requires : goal.judge_all-requires
judge_all-requires c =
    let test = c in
    marks_fresh _ _ c.page_count-n.ensures (told test.length_is_allowed.ensures test.if-not-length_is_allowed.false-raw)

pub returns-in_err-judge_all : goal.returns-in_err-judge_all
returns-in_err-judge_all c = told_on _ _ _ _ c.from_residual.ensures.1 (search (found_fault, c.in_err-judge_all.ensures))

pub free_count-requires : goal.free_count-requires
free_count-requires c = search (rules, long_enough)

pub returns : goal.returns
returns c = search (found_sound, c.in_ok-judge_all.ensures)
