-- The place decides: none, the root, a file and a directory that holds something are refused, each in its line; an empty one is removed as the model does.
use Rattle.removals2.proofs.Removes.{directory_root, directory_is_file, directory_walkable, directory_asked, directory_held, directory_done}
use Rattle.arrivals.proofs.Removes.{remove_directory_refused}
use Rattle.outcomes.proofs.Exits.{told_on}
use Rattle.places2.proofs.Held.{reads2}
use Rattle.removals2.proofs.remove_directory.Goals as goal

pub returns-in_err-arrived : goal.returns-in_err-arrived
returns-in_err-arrived c =
    let whole = remove_directory_refused reads2 _ _ c.in_err-arrived.ensures.1 in
    record { result_value = told_on _ _ _ _ c.from_residual.ensures.1 whole.0; image_after = whole.1 }

pub holds_nothing-requires : goal.holds_nothing-requires
holds_nothing-requires c =
    directory_walkable _ _ c.in_ok-arrived.arrived c.in_ok-arrived.ensures c.in-Directory.is

pub returns-then-not-holds_nothing : goal.returns-then-not-holds_nothing
returns-then-not-holds_nothing c =
    let whole = directory_held _ _ c.in_ok-arrived.arrived c.in_ok-arrived.ensures c.in-Directory.is
    {r = c.holds_nothing.result} c.holds_nothing.ensures c.if-not-holds_nothing.true-raw in
    record { result_value = whole.0; image_after = whole.1 }

pub directory_length-held-requires : goal.directory_length-held-requires
directory_length-held-requires c =
    directory_walkable _ _ c.in_ok-arrived.arrived c.in_ok-arrived.ensures c.in-Directory.is

pub remove_entry-requires : goal.remove_entry-requires
remove_entry-requires c =
    directory_asked _ _ c.in_ok-arrived.arrived c.in_ok-arrived.ensures c.in-Directory.is
    c.directory_length-held.ensures

pub returns-in-Root : goal.returns-in-Root
returns-in-Root c =
    let whole = directory_root _ _ c.in_ok-arrived.arrived c.in_ok-arrived.ensures c.in-Root.is in
    record { result_value = whole.0; image_after = whole.1 }

pub returns-in-File : goal.returns-in-File
returns-in-File c =
    let whole = directory_is_file _ _ c.in_ok-arrived.arrived c.in_ok-arrived.ensures c.in-File.is in
    record { result_value = whole.0; image_after = whole.1 }

pub returns-else-not-holds_nothing : goal.returns-else-not-holds_nothing
returns-else-not-holds_nothing c =
    let whole = directory_done _ _ c.in_ok-arrived.arrived c.in_ok-arrived.ensures c.in-Directory.is
    {r = c.holds_nothing.result} c.holds_nothing.ensures c.directory_length-held.ensures c.if-not-holds_nothing.false-raw c.remove_entry.ensures in
    record { result_value = whole.0; image_after = whole.1 }
