-- `visit_directories` visits one directory a turn. Each that is found has claimed a page, so the list has room and the loop ends.
use Rattle.fields.proofs.Plain.{rules}
use Rattle.claims.proofs.Claims.{goes_of, stops_of}
use Rattle.audit.proofs.Stands.{entered_both, stands_first, next_low, as_long, entries_asked, stands_unentered, push_fits, stands_next, stands_last}
use Rattle.audit.proofs.visit_directories.Goals as goal

pub loop-done-init : goal.loop-done-init
loop-done-init c = search stands_first

pub claim_entries-requires : goal.claim_entries-requires
claim_entries-requires c = entries_asked _ _ _ _ _ _ c.loop-done.invariant.2 c.loop-done-test.true

pub shape_of-list-then-not-claim_entries : goal.shape_of-list-then-not-claim_entries
shape_of-list-then-not-claim_entries c = search as_long

pub returns-then-not-claim_entries : goal.returns-then-not-claim_entries
returns-then-not-claim_entries c = search (stands_unentered, stops_of)

pub push_directories-found-requires : goal.push_directories-found-requires
push_directories-found-requires c =
    let claimed = c.claim_entries in
    let turn = c in
    let in_both = entered_both _ _ _ (goes_of claimed.result claimed.ensures c.if-not-claim_entries.false-raw) in (
      search next_low,
      push_fits _ _ _ _ _ _ turn.loop-done.invariant.2 turn.loop-done-test.true in_both.0 _ in_both.1,
    )

pub loop-done-preserved : goal.loop-done-preserved
loop-done-preserved c =
    let test = c in
    let claimed = test.claim_entries in
    let turn = test in
    let in_both = entered_both _ _ _ (goes_of claimed.result claimed.ensures test.if-not-claim_entries.false-raw) in
    let pushed = c.push_directories-found.ensures in (
      search rules,
      search rules,
      stands_next _ _ _ _ _ _ turn.loop-done.invariant.2 turn.loop-done-test.true in_both.0 _ in_both.1 _ _
          (search rules) pushed.0 pushed.1,
    )

pub shape_of-list : goal.shape_of-list
shape_of-list c = search as_long

pub returns : goal.returns
returns c = search stands_last
