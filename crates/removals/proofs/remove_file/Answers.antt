-- The place decides: none, the root, a directory and a locked file are refused, each in its line; any other file is removed as the model removes it.
-- The check finds the returns behind the lock's test by itself, by laws that `remove_file` names.
use Rattle.outcomes.proofs.Exits.{told_on}
use Rattle.answers.proofs.Files.{at_root, at_file, at_directory, file_entry}
use Rattle.removals.proofs.Removes.{file_refused, file_root, file_is_directory, file_asked}
use Rattle.removals.proofs.remove_file.Goals as goal

pub returns-in_err-arrive : goal.returns-in_err-arrive
returns-in_err-arrive c =
    let whole = file_refused _ _ c.in_err-arrive.ensures in
    record { result_value = told_on _ _ _ _ c.from_residual.ensures.1 whole.0; image_after = whole.1 }

pub is_locked-requires : goal.is_locked-requires
is_locked-requires c = file_entry _ _ _ (at_file c.in-File.is c.in_ok-arrive.ensures)

pub remove_entry-requires : goal.remove_entry-requires
remove_entry-requires c = file_asked _ _ _ (at_file c.in-File.is c.in_ok-arrive.ensures) _ c.pages_for-pages.ensures

pub returns-in-Root : goal.returns-in-Root
returns-in-Root c =
    let whole = file_root _ _ (at_root c.in-Root.is c.in_ok-arrive.ensures) in
    record { result_value = whole.0; image_after = whole.1 }

pub returns-in-Directory : goal.returns-in-Directory
returns-in-Directory c =
    let whole = file_is_directory _ _ _ (at_directory c.in-Directory.is c.in_ok-arrive.ensures) in
    record { result_value = whole.0; image_after = whole.1 }
