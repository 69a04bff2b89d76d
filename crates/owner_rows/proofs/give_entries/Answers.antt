-- `give_entries` gives one entry its pages a turn; what is left is the rest of the directory.
use Rattle.fields.proofs.Plain.{rules, refl}
use Rattle.claims.proofs.Claims.{rest_all, entries_done}
use Rattle.claims.proofs.Names.{pushes_first}
use Rattle.owner_rows.proofs.Gives.{entry_asks, entries_turn}
use Rattle.owner_rows.proofs.Finds.{entry_room, pushes_next, pushes_done}
use Rattle.owner_rows.proofs.give_entries.Goals as goal

pub loop-i-init : goal.loop-i-init
loop-i-init c = (refl, rw (rest_all _), search pushes_first)

pub give_entry-end-requires : goal.give_entry-end-requires
give_entry-end-requires c = (search rules, search rules, search entry_asks, search entry_room)

pub loop-i-preserved : goal.loop-i-preserved
loop-i-preserved c = (search rules, search entries_turn, search (rules, pushes_next))

pub returns : goal.returns
returns c = record { row_after = search entries_done; pushed = search pushes_done }
