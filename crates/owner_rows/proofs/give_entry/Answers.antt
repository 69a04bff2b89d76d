-- `give_entry` goes by the kind of the entry, as the definition does.
use Rattle.fields.proofs.Plain.{rules}
use Rattle.claims.proofs.Claims.{vacant_claims}
use Rattle.owner_rows.proofs.Gives.{file_asks, file_given, directory_asks, directory_given}
use Rattle.owner_rows.proofs.Finds.{vacant_finds, file_finds, directory_room, directory_finds, small_directory}
use Rattle.owner_rows.proofs.give_entry.Goals as goal

pub give_chain-requires : goal.give_chain-requires
give_chain-requires c = (search rules, search file_asks)

pub give_page-requires : goal.give_page-requires
give_page-requires c = search directory_asks

pub overflow_cast-list : goal.overflow_cast-list
overflow_cast-list c = search small_directory

pub bounds-list-end : goal.bounds-list-end
bounds-list-end c = search directory_room

pub overflow_add-result : goal.overflow_add-result
overflow_add-result c = search (rules, directory_room)

pub returns-in-Vacant : goal.returns-in-Vacant
returns-in-Vacant c = record { row_after = search vacant_claims; pushed = search vacant_finds }

pub returns-in-File : goal.returns-in-File
returns-in-File c = record { row_after = search file_given; pushed = search file_finds }

pub returns-in-Directory : goal.returns-in-Directory
returns-in-Directory c = record { row_after = search directory_given; pushed = search directory_finds }
