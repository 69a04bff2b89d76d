-- `next_entry` answers the next entry of the page, or the first of the page that follows, or the end: in each case the row left begins with the entry at hand.
-- No answer names the test for page 0, so an edit of it is refused for what it then means: `omega` finds what it says.
use Rattle.fields.proofs.Plain.{arith}
use Rattle.rows2.proofs.On.{some_entry}
use Rattle.cursor2.proofs.Turns.{behind_none, turn_same, turn_end, turn_next, pages_next}
use Rattle.cursor2.proofs.Seeking.{link_lies, number_few}
use Rattle.cursor2.proofs.next_entry.Goals as goal

pub overflow_add-number : goal.overflow_add-number
overflow_add-number c = omega (arith, number_few c.requires.1 c.requires.0)

pub returns-then-number-entry_count : goal.returns-then-number-entry_count
returns-then-number-entry_count c =
    let i = c.requires.1 in (
      turn_same _ _ _ _ _ i.within _,
      record { within = omega (arith, c.entry_count.ensures, c.if-number-entry_count.true); pages = i.pages },
    )

pub link-page-requires : goal.link-page-requires
link-page-requires c = link_lies c.requires.1

pub returns-then-left-eq0 : goal.returns-then-left-eq0
returns-then-left-eq0 c =
    let i = c.requires.1 in (
      turn_end _ _ _ _ _ i.within (omega (arith, c.entry_count.ensures, c.if-number-entry_count.false)) _
          (behind_none _ _ _ c.if-left-eq0.true),
      tt,
    )

pub returns : goal.returns
returns c =
    let i = c.requires in (
      turn_next _ _ _ _ _ i.1.within (omega (arith, c.entry_count.ensures, c.if-number-entry_count.false)) _ _
          c.if-left-eq0.false c.link-page.ensures (λ z. omega arith),
      record {
        within = some_entry i.0 c.link-page.result.0;
        pages = pages_next c.args.shape c.args.image.now _ _ _ c.if-left-eq0.false c.link-page.ensures (λ z. omega arith) i.1.pages;
      },
    )
