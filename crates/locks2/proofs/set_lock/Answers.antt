-- The place decides: none and a directory are refused; of a file one byte of the entry changes, as in the model.
use Rattle.locks2.proofs.Locks.{lock_directory, lock_done, file_flags}
use Rattle.arrivals.proofs.Locks.{lock_refused}
use Rattle.outcomes.proofs.Exits.{told_on}
use Rattle.places2.proofs.Held.{reads2}
use Rattle.locks2.proofs.set_lock.Goals as goal

pub returns-in_err-arrived : goal.returns-in_err-arrived
returns-in_err-arrived c =
    let whole = lock_refused reads2 _ _ _ c.in_err-arrived.ensures.1 in
    record { result_value = told_on _ _ _ _ c.from_residual.ensures.1 whole.0; image_after = whole.1 }

pub returns-in_default : goal.returns-in_default
returns-in_default c =
    let whole = lock_directory _ _ c.in_ok-arrived.arrived c.in_ok-arrived.ensures _ c.in_default.not-File in
    record { result_value = whole.0; image_after = whole.1 }

pub lock_entry-requires : goal.lock_entry-requires
lock_entry-requires c =
    file_flags _ _ c.in_ok-arrived.arrived c.in_ok-arrived.ensures c.in-File.is

pub returns : goal.returns
returns c =
    let whole = lock_done _ _ c.in_ok-arrived.arrived c.in_ok-arrived.ensures
    _ c.in-File.is c.lock_entry.ensures in
    record { result_value = whole.0; image_after = whole.1 }
