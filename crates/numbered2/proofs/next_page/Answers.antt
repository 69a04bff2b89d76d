-- The row behind the page's last entry is what is left behind all that the page has.
use Rattle.numbered2.proofs.Numbered.{on_stands, over_page}
use Rattle.fields.proofs.Plain.{rules, arith}
use Rattle.numbered2.proofs.next_page.Goals as goal

pub overflow_sub-number : goal.overflow_sub-number
overflow_sub-number c = omega (arith, c.entry_count-number.ensures, c.requires.1.within)

pub next_entry-requires : goal.next_entry-requires
next_entry-requires c = (search rules, on_stands c.requires.1 (omega (arith, c.entry_count-number.ensures, c.requires.1.within)))

pub returns : goal.returns
returns c = (over_page c.requires.1 (omega (arith, c.entry_count-number.ensures)) c.next_entry.ensures.0, search rules)
