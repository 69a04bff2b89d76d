-- Each test is a line of the call, in the lines' order; where none refuses, the entry is rewritten as the model rewrites it.
-- The check finds the return at no bytes by itself, by laws that `write` names, and no answer names that test.
use Rattle.writes2.proofs.Writings.{write_directory, write_counted, write_locked, write_past, write_lacking, writable, write_done}
use Rattle.arrivals.proofs.Writings.{write_refused}
use Rattle.outcomes.proofs.Exits.{told_on}
use Rattle.places2.proofs.Held.{reads2, file_entry}
use Rattle.fields.proofs.Plain.{rules, arith}
use Rattle.writes2.proofs.write.Goals as goal

pub returns-in_err-arrived : goal.returns-in_err-arrived
returns-in_err-arrived c =
    let whole = write_refused reads2 _ _ _ _ c.in_err-arrived.ensures.1 in
    record { result_value = told_on _ _ _ _ c.from_residual.ensures.1 whole.0; image_after = whole.1 }

pub returns-in_default : goal.returns-in_default
returns-in_default c =
    let whole = write_directory _ _ c.in_ok-arrived.arrived c.in_ok-arrived.ensures _ _ c.in_default.not-File in
    record { result_value = whole.0; image_after = whole.1 }

pub is_locked-requires : goal.is_locked-requires
is_locked-requires c =
    file_entry _ _ c.in_ok-arrived.arrived c.in_ok-arrived.ensures c.in-File.is

pub returns-then-is_locked : goal.returns-then-is_locked
returns-then-is_locked c =
    let whole = write_locked _ _ c.in_ok-arrived.arrived c.in_ok-arrived.ensures c.in-File.is
    _ _ c.is_locked.ensures c.if-is_locked.true in
    record { result_value = whole.0; image_after = whole.1 }

pub returns-then-target-position : goal.returns-then-target-position
returns-then-target-position c =
    let whole = write_past _ _ c.in_ok-arrived.arrived c.in_ok-arrived.ensures c.in-File.is
    _ _ c.is_locked.ensures c.if-is_locked.false c.if-target-position.true in
    record { result_value = whole.0; image_after = whole.1 }

pub lacks_pages-requires : goal.lacks_pages-requires
lacks_pages-requires c =
    write_counted _ _ c.in_ok-arrived.arrived c.in_ok-arrived.ensures c.in-File.is
    (omega arith)

pub returns-then-lacks_pages : goal.returns-then-lacks_pages
returns-then-lacks_pages c =
    let whole = write_lacking _ _ c.in_ok-arrived.arrived c.in_ok-arrived.ensures c.in-File.is
    _ _ c.is_locked.ensures c.if-is_locked.false (omega arith) c.lacks_pages.ensures c.if-lacks_pages.true in
    record { result_value = whole.0; image_after = whole.1 }

pub write_entry-requires : goal.write_entry-requires
write_entry-requires c =
    writable _ _ c.in_ok-arrived.arrived c.in_ok-arrived.ensures c.in-File.is
    _ _ c.is_locked.ensures c.if-is_locked.false (omega arith) c.lacks_pages.ensures (search rules)

pub returns : goal.returns
returns c =
    let whole = write_done _ _ c.in_ok-arrived.arrived c.in_ok-arrived.ensures c.in-File.is
    _ _ c.is_locked.ensures c.if-is_locked.false (omega arith) c.lacks_pages.ensures (search rules) (search rules) c.write_entry.ensures in
    record { result_value = whole.0; image_after = whole.1 }
