-- `claim_entries` sees one entry a turn: its name, then its pages; what is left is the rest of the directory.
use Rattle.fields.proofs.Plain.{rules, refl}
use Rattle.claims.proofs.Claims.{rest_all}
use Rattle.claims.proofs.Names.{entered_unnamed, entered_unclaimed, entered_on, entered_done}
use Rattle.claims.proofs.claim_entries.Goals as goal

pub loop-i-init : goal.loop-i-init
loop-i-init c = (refl, rw (rest_all _))

pub returns-then-not-name_is_last : goal.returns-then-not-name_is_last
returns-then-not-name_is_last c = search entered_unnamed

pub returns-then-not-claim_entry : goal.returns-then-not-claim_entry
returns-then-not-claim_entry c = search entered_unclaimed

pub loop-i-preserved : goal.loop-i-preserved
loop-i-preserved c =
    let claimed = c in
    let named = claimed in
    let turn = named in (
      search rules,
      entered_on _ _ _ _ turn.loop-i.invariant.1 turn.entry_count-count.ensures turn.loop-i-test.true
          named.name_is_last.ensures claimed.if-not-name_is_last.false-raw claimed.entry_position.ensures.0
          claimed.claim_entry.result _ claimed.claim_entry.ensures c.if-not-claim_entry.false-raw,
    )

pub returns : goal.returns
returns c = search entered_done
