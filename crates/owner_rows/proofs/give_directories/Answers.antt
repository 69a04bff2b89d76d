-- `give_directories` visits one directory a turn. Each that is found has its page, so the list has room and the loop ends.
use Rattle.fields.proofs.Plain.{rules}
use Rattle.audit.proofs.Stands.{stands_first, as_long, stands_last}
use Rattle.owner_rows.proofs.Gives.{directory_asked, stands_turn}
use Rattle.owner_rows.proofs.give_directories.Goals as goal

pub loop-done-init : goal.loop-done-init
loop-done-init c = search stands_first

pub give_entries-found-requires : goal.give_entries-found-requires
give_entries-found-requires c = directory_asked _ _ _ _ _ _ c.loop-done.invariant.2 (search rules) c.loop-done-test.true (search rules)

pub loop-done-preserved : goal.loop-done-preserved
loop-done-preserved c =
    let given = c in
    let page = given in
    let turn = page in (
      search rules,
      search rules,
      stands_turn _ _ _ _ _ _ turn.loop-done.invariant.2 (search rules) turn.loop-done-test.true (search rules) given.give_entries-found.ensures.row_after (search rules) given.give_entries-found.ensures.pushed,
    )

pub shape_of-list : goal.shape_of-list
shape_of-list c = search as_long

pub returns : goal.returns
returns c = search stands_last
