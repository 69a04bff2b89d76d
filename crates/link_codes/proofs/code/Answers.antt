-- Each arm is the code of its case: the base's refusals have the base's code, and a row's place has 56 bits at most.
use Rattle.fields.proofs.Plain.{arith}
use Rattle.codes.specs.Codes.{packed}
use Rattle.link_codes.specs.Codes.{points_to_row, link_code}
use Rattle.link_codes.proofs.Codes.{base_fits, base_code}
use Rattle.link_codes.proofs.code.Goals as goal

pub code-requires : goal.code-requires
unfolding link_code points_to_row packed
code-requires c = base_fits c.in-Base.is c.requires

pub overflow_mul-result : goal.overflow_mul-result
unfolding link_code points_to_row packed
overflow_mul-result c = omega (arith, c.row_place.ensures)

pub overflow_add-result : goal.overflow_add-result
unfolding link_code points_to_row packed
overflow_add-result c = omega (arith, c.row_place.ensures)

pub overflow_mul-result-in-NotAbove : goal.overflow_mul-result-in-NotAbove
unfolding link_code points_to_row packed
overflow_mul-result-in-NotAbove c = omega (arith, c.row_place-in-NotAbove.ensures)

pub overflow_add-result-in-NotAbove : goal.overflow_add-result-in-NotAbove
unfolding link_code points_to_row packed
overflow_add-result-in-NotAbove c = omega (arith, c.row_place-in-NotAbove.ensures)

pub overflow_mul-result-in-NoFile : goal.overflow_mul-result-in-NoFile
unfolding link_code points_to_row packed
overflow_mul-result-in-NoFile c = omega (arith, c.row_place-in-NoFile.ensures)

pub overflow_add-result-in-NoFile : goal.overflow_add-result-in-NoFile
unfolding link_code points_to_row packed
overflow_add-result-in-NoFile c = omega (arith, c.row_place-in-NoFile.ensures)

pub returns-in-Base : goal.returns-in-Base
unfolding link_code points_to_row packed
returns-in-Base c = base_code c.in-Base.is c.code.ensures

pub returns-in-BrokenRow : goal.returns-in-BrokenRow
unfolding link_code points_to_row packed
returns-in-BrokenRow c = rw (c.in-BrokenRow.is, c.row_place.ensures)

pub returns-in-NotAbove : goal.returns-in-NotAbove
unfolding link_code points_to_row packed
returns-in-NotAbove c = rw (c.in-NotAbove.is, c.row_place-in-NotAbove.ensures)

pub returns-in-ListTooShort : goal.returns-in-ListTooShort
unfolding link_code points_to_row packed
returns-in-ListTooShort c = rw c.in-ListTooShort.is

pub returns-in-NoFile : goal.returns-in-NoFile
unfolding link_code points_to_row packed
returns-in-NoFile c = rw (c.in-NoFile.is, c.row_place-in-NoFile.ensures)
