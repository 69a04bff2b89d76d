-- The place decides: it is refused, or it is the page of a directory, whose entry is listed.
use Rattle.listed.proofs.Lists.{list_refused, list_at_lem, list_at_file}
use Rattle.outcomes.proofs.Exits.{told_on}
use Rattle.places.proofs.Entries.{directory_inside}
use Rattle.places.proofs.Arrivals.{placed_arrived}
use Rattle.places.specs.Places.{the_root}
use Rattle.laws.proofs.Slots.{size}
use Rattle.answers.proofs.Files.{at_root, at_file, at_directory}
use Rattle.fields.proofs.Plain.{arith}
use Rattle.listed.proofs.list.Goals as goal

pub returns-in_err-arrive : goal.returns-in_err-arrive
returns-in_err-arrive c = told_on _ _ _ _ c.from_residual.ensures.1 (list_refused _ _ _ c.in_err-arrive.ensures)

pub list_entry-requires : goal.list_entry-requires
list_entry-requires c =
    let s = placed_arrived _ _ the_root (at_root c.in-Root.is c.in_ok-arrive.ensures) in
    let z = size s.facts in
    (omega arith, omega arith)

pub list_entry-requires-in-Directory : goal.list_entry-requires-in-Directory
list_entry-requires-in-Directory c =
    let s = placed_arrived _ _ _ (at_directory c.in-Directory.is c.in_ok-arrive.ensures) in
    let z = size s.facts in
    let d = directory_inside _ s.facts _ _ _ s.at.0 s.at.1 in
    (omega arith, omega arith)

pub returns-in-Root : goal.returns-in-Root
returns-in-Root c = list_at_lem _ _ _ the_root (at_root c.in-Root.is c.in_ok-arrive.ensures) c.list_entry.ensures

pub returns-in-File : goal.returns-in-File
returns-in-File c = list_at_file _ _ _ (at_file c.in-File.is c.in_ok-arrive.ensures)

pub returns-in-Directory : goal.returns-in-Directory
returns-in-Directory c = list_at_lem _ _ _ _ (at_directory c.in-Directory.is c.in_ok-arrive.ensures) c.list_entry-in-Directory.ensures
