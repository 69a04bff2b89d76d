-- The place decides: none, the root, a directory and a locked file are refused, each in its line; any other file is removed as the model removes it.
use Rattle.removals2.proofs.Removes.{file_root, file_is_directory, file_asked, file_locked, file_done}
use Rattle.arrivals.proofs.Removes.{remove_file_refused}
use Rattle.outcomes.proofs.Exits.{told_on}
use Rattle.places2.proofs.Held.{reads2, file_entry, file_sizes}
use Rattle.removals2.proofs.remove_file.Goals as goal

pub returns-in_err-arrived : goal.returns-in_err-arrived
returns-in_err-arrived c =
    let whole = remove_file_refused reads2 _ _ c.in_err-arrived.ensures.1 in
    record { result_value = told_on _ _ _ _ c.from_residual.ensures.1 whole.0; image_after = whole.1 }

pub is_locked-requires : goal.is_locked-requires
is_locked-requires c =
    file_entry _ _ c.in_ok-arrived.arrived c.in_ok-arrived.ensures c.in-File.is

pub returns-then-is_locked : goal.returns-then-is_locked
returns-then-is_locked c =
    let whole = file_locked _ _ c.in_ok-arrived.arrived c.in_ok-arrived.ensures c.in-File.is
    c.is_locked.ensures c.if-is_locked.true in
    record { result_value = whole.0; image_after = whole.1 }

pub pages_for-held-requires : goal.pages_for-held-requires
pages_for-held-requires c =
    file_sizes _ _ c.in_ok-arrived.arrived c.in_ok-arrived.ensures c.in-File.is

pub remove_entry-requires : goal.remove_entry-requires
remove_entry-requires c =
    file_asked _ _ c.in_ok-arrived.arrived c.in_ok-arrived.ensures c.in-File.is
    c.pages_for-held.ensures

pub returns-in-Root : goal.returns-in-Root
returns-in-Root c =
    let whole = file_root _ _ c.in_ok-arrived.arrived c.in_ok-arrived.ensures c.in-Root.is in
    record { result_value = whole.0; image_after = whole.1 }

pub returns-else-is_locked : goal.returns-else-is_locked
returns-else-is_locked c =
    let whole = file_done _ _ c.in_ok-arrived.arrived c.in_ok-arrived.ensures c.in-File.is
    c.pages_for-held.ensures c.is_locked.ensures c.if-is_locked.false c.remove_entry.ensures in
    record { result_value = whole.0; image_after = whole.1 }

pub returns-in-Directory : goal.returns-in-Directory
returns-in-Directory c =
    let whole = file_is_directory _ _ c.in_ok-arrived.arrived c.in_ok-arrived.ensures c.in-Directory.is in
    record { result_value = whole.0; image_after = whole.1 }
