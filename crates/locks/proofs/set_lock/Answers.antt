-- The place decides: none and a directory are refused; of a file one byte of the entry changes, as in the model.
use Rattle.outcomes.proofs.Exits.{told_on}
use Rattle.answers.proofs.Files.{at_file, file_flags}
use Rattle.locks.proofs.Locks.{lock_refused, lock_directory, lock_done}
use Rattle.locks.proofs.set_lock.Goals as goal

pub returns-in_err-target : goal.returns-in_err-target
returns-in_err-target c =
    let whole = lock_refused _ _ _ c.in_err-target.ensures in
    record { result_value = told_on _ _ _ _ c.from_residual.ensures.1 whole.0; image_after = whole.1 }

pub returns-in_default : goal.returns-in_default
returns-in_default c =
    let whole = lock_directory _ _ _ _ c.in_default.not-File c.in_ok-target.ensures in
    record { result_value = whole.0; image_after = whole.1 }

pub lock_entry-requires : goal.lock_entry-requires
lock_entry-requires c = file_flags _ _ _ (at_file c.in-File.is c.in_ok-target.ensures)

pub returns : goal.returns
returns c =
    let whole = lock_done _ _ _ _ (at_file c.in-File.is c.in_ok-target.ensures) c.lock_entry.ensures in
    record { result_value = whole.0; image_after = whole.1 }
