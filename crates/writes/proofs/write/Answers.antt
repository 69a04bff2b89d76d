-- Each test is a line of the call, in the lines' order; where none refuses, the entry is rewritten as the model rewrites it. The check finds the returns at
-- a lock and at no bytes by itself, by laws that `write` names, and no answer names either test.
use Rattle.outcomes.proofs.Exits.{told_on}
use Rattle.writes.proofs.Writings.{write_refused, write_directory, write_past, few, small, long, Passed, write_lacking, writable, write_done}
use Rattle.answers.proofs.Files.{FileAt, at_file, file_entry}
use Rattle.fields.proofs.Plain.{rules, arith}
use Rattle.writes.proofs.write.Goals as goal

pub returns-in_err-target : goal.returns-in_err-target
returns-in_err-target c =
    let whole = write_refused _ _ _ _ c.in_err-target.ensures in
    record { result_value = told_on _ _ _ _ c.from_residual.ensures.1 whole.0; image_after = whole.1 }

pub returns-in_default : goal.returns-in_default
returns-in_default c =
    let whole = write_directory _ _ _ _ _ c.in_default.not-File c.in_ok-target.ensures in
    record { result_value = whole.0; image_after = whole.1 }

pub is_locked-requires : goal.is_locked-requires
is_locked-requires c = file_entry _ _ _ (at_file c.in-File.is c.in_ok-target.ensures)

pub returns-then-target-position : goal.returns-then-target-position
returns-then-target-position c =
    let there : (let a = c.args in FileAt a.image.now a.path.now c.in-File.target) = at_file c.in-File.is c.in_ok-target.ensures in
    let whole = write_past _ _ _ _ _ there c.is_locked.ensures (search rules) c.if-target-position.true in
    record { result_value = whole.0; image_after = whole.1 }

pub lacks_pages-requires : goal.lacks_pages-requires
lacks_pages-requires c =
    let there : (let a = c.args in FileAt a.image.now a.path.now c.in-File.target) = at_file c.in-File.is c.in_ok-target.ensures in
    (long _ _ _ there, omega arith, small _ _ _ there, few _ _ _ there)

pub returns-then-lacks_pages : goal.returns-then-lacks_pages
returns-then-lacks_pages c =
    let there : (let a = c.args in FileAt a.image.now a.path.now c.in-File.target) = at_file c.in-File.is c.in_ok-target.ensures in
    let passed : (let a = c.args in Passed a.image.now a.path.now a.position.0 c.in-File.target) = record { there = there; unlocked = grind arith; inside = omega arith } in
    let whole = write_lacking passed _ c.lacks_pages.ensures c.if-lacks_pages.true in
    record { result_value = whole.0; image_after = whole.1 }

pub write_entry-requires : goal.write_entry-requires
write_entry-requires c =
    let there : (let a = c.args in FileAt a.image.now a.path.now c.in-File.target) = at_file c.in-File.is c.in_ok-target.ensures in
    let passed : (let a = c.args in Passed a.image.now a.path.now a.position.0 c.in-File.target) = record { there = there; unlocked = grind arith; inside = omega arith } in
    writable passed _ c.lacks_pages.ensures (search rules)

pub returns : goal.returns
returns c =
    let there : (let a = c.args in FileAt a.image.now a.path.now c.in-File.target) = at_file c.in-File.is c.in_ok-target.ensures in
    let passed : (let a = c.args in Passed a.image.now a.path.now a.position.0 c.in-File.target) = record { there = there; unlocked = grind arith; inside = omega arith } in
    let whole = write_done passed _ c.lacks_pages.ensures (search rules) (search rules) c.write_entry.ensures in
    record { result_value = whole.0; image_after = whole.1 }
