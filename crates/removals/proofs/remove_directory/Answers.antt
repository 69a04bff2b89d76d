-- The place decides: none, the root, a file and a directory that holds something are refused, each in its line; an empty one is removed as the model does.
use Rattle.fields.proofs.Plain.{rules}
use Rattle.outcomes.proofs.Exits.{told_on}
use Rattle.answers.proofs.Files.{at_root, at_file, at_directory}
use Rattle.removals.proofs.Removes.{directory_refused, directory_root, directory_is_file, directory_page, directory_asked, directory_held, directory_done}
use Rattle.removals.proofs.remove_directory.Goals as goal

pub returns-in_err-arrive : goal.returns-in_err-arrive
returns-in_err-arrive c =
    let whole = directory_refused _ _ c.in_err-arrive.ensures in
    record { result_value = told_on _ _ _ _ c.from_residual.ensures.1 whole.0; image_after = whole.1 }

pub holds_nothing-requires : goal.holds_nothing-requires
holds_nothing-requires c = directory_page _ _ _ (at_directory c.in-Directory.is c.in_ok-arrive.ensures)

pub returns-then-not-holds_nothing : goal.returns-then-not-holds_nothing
returns-then-not-holds_nothing c =
    let whole = directory_held _ _ _ (at_directory c.in-Directory.is c.in_ok-arrive.ensures) _ c.holds_nothing.ensures (search rules) in
    record { result_value = whole.0; image_after = whole.1 }

pub remove_entry-requires : goal.remove_entry-requires
remove_entry-requires c = directory_asked _ _ _ (at_directory c.in-Directory.is c.in_ok-arrive.ensures)

pub returns-in-Root : goal.returns-in-Root
returns-in-Root c =
    let whole = directory_root _ _ (at_root c.in-Root.is c.in_ok-arrive.ensures) in
    record { result_value = whole.0; image_after = whole.1 }

pub returns-in-File : goal.returns-in-File
returns-in-File c =
    let whole = directory_is_file _ _ _ (at_file c.in-File.is c.in_ok-arrive.ensures) in
    record { result_value = whole.0; image_after = whole.1 }

pub returns-else-not-holds_nothing : goal.returns-else-not-holds_nothing
returns-else-not-holds_nothing c =
    let whole = directory_done _ _ _ (at_directory c.in-Directory.is c.in_ok-arrive.ensures) _ c.holds_nothing.ensures (search rules) c.remove_entry.ensures in
    record { result_value = whole.0; image_after = whole.1 }
