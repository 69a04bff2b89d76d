-- Each turn passes the entries of a page: with those that the row has left they are all.
use Rattle.fields.proofs.Plain.{arith, refl}
use Rattle.lists2.proofs.Widths.{count_small, count_fewer, count_next, count_end}
use Rattle.lists2.proofs.width_of.Goals as goal

pub loop-next-init : goal.loop-next-init
loop-next-init c = record { stands = c.first_entry-cursor.ensures.1; sum = omega arith }

pub entry_count-requires : goal.entry_count-requires
entry_count-requires c = c.requires.0

pub overflow_sub-held : goal.overflow_sub-held
overflow_sub-held c = omega (arith, c.entry_count.ensures, c.loop-next.invariant.stands.within)

pub overflow_add-passed : goal.overflow_add-passed
overflow_add-passed c = omega (arith, count_small c.loop-next.invariant c.entry_count.ensures c.requires.0 _ c.first_entry-cursor.ensures.0)

pub next_page-requires : goal.next_page-requires
next_page-requires c = (c.requires.0, c.loop-next.invariant.stands)

pub loop-next-smaller : goal.loop-next-smaller
loop-next-smaller c = count_fewer c.loop-next.invariant c.entry_count.ensures c.in-Some.ensures.0 c.in-Some.next refl

pub loop-next-preserved : goal.loop-next-preserved
loop-next-preserved c = count_next c.loop-next.invariant c.entry_count.ensures c.in-Some.ensures.0 refl c.in-Some.ensures.1

pub returns-in_default : goal.returns-in_default
returns-in_default c = count_end c.loop-next.invariant c.entry_count.ensures c.in_default.ensures.0 c.first_entry-cursor.ensures.0 refl
