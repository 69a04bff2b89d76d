-- The place decides: it is refused, or it is a directory, whose entries are told.
use Rattle.fields.proofs.Plain.{◌∙◌}
use Rattle.known2.proofs.Rows.{known_root}
use Rattle.outcomes.proofs.Exits.{told_on}
use Rattle.places2.proofs.Held.{known_at, at_root, at_file, at_directory, directory_there}
use Rattle.lists2.proofs.Tellings.{root_answer, root_rows, directory_answer, directory_rows, place_refused, file_refused}
use Rattle.lists2.proofs.entries.Goals as goal

pub returns-in_err-arrived : goal.returns-in_err-arrived
returns-in_err-arrived c =
    let whole = place_refused _ _ _ c.in_err-arrived.ensures.1 _ in
    record { result_value = told_on _ _ _ _ c.from_residual.ensures.1 whole.0; rows_after = whole.1 }

pub entries_in-requires : goal.entries_in-requires
entries_in-requires c = let k = known_at _ _ c.in_ok-arrived.arrived c.in_ok-arrived.ensures in (k, known_root k)

pub entries_in-requires-in-Directory : goal.entries_in-requires-in-Directory
entries_in-requires-in-Directory c = (
  known_at _ _ c.in_ok-arrived.arrived c.in_ok-arrived.ensures,
  directory_there _ _ c.in_ok-arrived.arrived c.in_ok-arrived.ensures c.in-Directory.is,
)

pub returns-in-Root : goal.returns-in-Root
returns-in-Root c =
    let k = known_at _ _ c.in_ok-arrived.arrived c.in_ok-arrived.ensures in
    let e = at_root _ _ c.in_ok-arrived.arrived c.in_ok-arrived.ensures c.in-Root.is in
    record { result_value = c.entries_in.ensures.result_value ∙ root_answer k _ _ e _; rows_after = c.entries_in.ensures.rows_after ∙ root_rows k _ _ e _ }

pub returns-in-File : goal.returns-in-File
returns-in-File c =
    let whole = file_refused _ _ _ (at_file _ _ c.in_ok-arrived.arrived c.in_ok-arrived.ensures c.in-File.is) _ in
    record { result_value = whole.0; rows_after = whole.1 }

pub returns-in-Directory : goal.returns-in-Directory
returns-in-Directory c =
    let k = known_at _ _ c.in_ok-arrived.arrived c.in_ok-arrived.ensures in
    let e = at_directory _ _ c.in_ok-arrived.arrived c.in_ok-arrived.ensures c.in-Directory.is in
    record { result_value = c.entries_in-in-Directory.ensures.result_value ∙ directory_answer k _ _ e _; rows_after = c.entries_in-in-Directory.ensures.rows_after ∙ directory_rows k _ _ e _ }
