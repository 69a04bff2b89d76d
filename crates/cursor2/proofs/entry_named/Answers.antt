-- `entry_named` goes one entry on a turn, as `vacant_entry` does, and asks another test.
use Rattle.fields.proofs.Plain.{arith, refl, sym, ap, ◌∙◌}
use Rattle.cursor2.specs.Row.{found_of}
use Rattle.cursor2.proofs.Seeking.{named_is, seek_found, seek_next, seek_none, row_shorter}
use Rattle.cursor2.proofs.entry_named.Goals as goal

pub loop-shape-init : goal.loop-shape-init
loop-shape-init c = record { stands = c.first_entry-cursor.ensures.1; left = refl }

pub position_of-at-requires : goal.position_of-at-requires
position_of-at-requires c = (c.requires.0, c.loop-shape.invariant.stands)

pub is_named-requires : goal.is_named-requires
is_named-requires c = omega (arith, c.position_of-at.ensures.1)

pub returns-then-is_named : goal.returns-then-is_named
returns-then-is_named c =
    seek_found c.loop-shape.invariant c.position_of-at.ensures.0 c.first_entry-cursor.ensures.0
    (sym (c.is_named.ensures ∙ named_is _ _ _) ∙ c.if-is_named.true)

pub next_entry-requires : goal.next_entry-requires
next_entry-requires c = (c.requires.0, c.loop-shape.invariant.stands)

pub loop-shape-smaller : goal.loop-shape-smaller
loop-shape-smaller c = row_shorter _ c.args.shape _ _ _ c.in_ok-cursor.ensures.0

pub loop-shape-preserved : goal.loop-shape-preserved
loop-shape-preserved c =
    seek_next c.loop-shape.invariant c.position_of-at.ensures.0
    (sym (c.is_named.ensures ∙ named_is _ _ _) ∙ c.if-is_named.false)
    c.in_ok-cursor.ensures.0 refl c.in_ok-cursor.ensures.1

pub returns-in_err-cursor : goal.returns-in_err-cursor
returns-in_err-cursor c =
    ap found_of c.from_residual.ensures ∙ seek_none c.loop-shape.invariant c.position_of-at.ensures.0
    (sym (c.is_named.ensures ∙ named_is _ _ _) ∙ c.if-is_named.false)
    c.in_err-cursor.ensures.0 c.first_entry-cursor.ensures.0 refl
