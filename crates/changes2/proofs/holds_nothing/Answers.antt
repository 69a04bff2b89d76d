-- `holds_nothing` goes one entry on a turn and looks for one that is not vacant: if there is none, all are.
use Rattle.fields.proofs.Plain.{arith, refl, sym, ap, ◌∙◌, not}
use Rattle.cursor2.proofs.Seeking.{seek_found, seek_next, seek_none, row_shorter}
use Rattle.changes2.proofs.Directories.{all_pass, one_fails}
use Rattle.changes2.proofs.holds_nothing.Goals as goal

pub first_entry-cursor-requires : goal.first_entry-cursor-requires
first_entry-cursor-requires c = let w = c.requires in (w.roomy, w.some, w.lie)

pub loop-shape-init : goal.loop-shape-init
loop-shape-init c = record { stands = c.first_entry-cursor.ensures.1; left = refl }

pub position_of-at-requires : goal.position_of-at-requires
position_of-at-requires c = (c.requires.roomy, c.loop-shape.invariant.stands)

pub is_vacant-requires : goal.is_vacant-requires
is_vacant-requires c = omega (arith, c.position_of-at.ensures.1)

pub returns-then-not-is_vacant : goal.returns-then-not-is_vacant
returns-then-not-is_vacant c = one_fails _ _ (seek_found c.loop-shape.invariant c.position_of-at.ensures.0 c.first_entry-cursor.ensures.0 (ap not (sym c.is_vacant.ensures) ∙ c.if-not-is_vacant.true-raw))

pub next_entry-requires : goal.next_entry-requires
next_entry-requires c = (c.requires.roomy, c.loop-shape.invariant.stands)

pub loop-shape-smaller : goal.loop-shape-smaller
loop-shape-smaller c = row_shorter _ c.args.shape _ _ _ c.in-Some.ensures.0

pub loop-shape-preserved : goal.loop-shape-preserved
loop-shape-preserved c = seek_next c.loop-shape.invariant c.position_of-at.ensures.0 (ap not (sym c.is_vacant.ensures) ∙ c.if-not-is_vacant.false-raw) c.in-Some.ensures.0 refl c.in-Some.ensures.1

pub returns-in_default : goal.returns-in_default
returns-in_default c = all_pass _ _ (seek_none c.loop-shape.invariant c.position_of-at.ensures.0 (ap not (sym c.is_vacant.ensures) ∙ c.if-not-is_vacant.false-raw) c.in_default.ensures.0 c.first_entry-cursor.ensures.0 refl)
