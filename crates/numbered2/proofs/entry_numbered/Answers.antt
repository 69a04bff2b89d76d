-- `entry_numbered` goes one page on a turn: the entry looked for stands in the row that is left, as many entries further as are not passed yet.
use Rattle.numbered2.proofs.Numbered.{seek_here, seek_fewer, seek_next, seek_end}
use Rattle.rows2.proofs.On.{few_entries}
use Rattle.fields.proofs.Plain.{arith, refl}
use Rattle.numbered2.proofs.entry_numbered.Goals as goal

pub loop-further-init : goal.loop-further-init
loop-further-init c = record { stands = c.first_entry-cursor.ensures.1; left = refl }

pub entry_count-requires : goal.entry_count-requires
entry_count-requires c = c.requires.0

pub overflow_sub-held : goal.overflow_sub-held
overflow_sub-held c = omega (arith, c.entry_count.ensures, c.loop-further.invariant.stands.within)

pub overflow_add-number : goal.overflow_add-number
overflow_add-number c = omega (arith, c.if-further-held.true, c.entry_count.ensures, few_entries c.requires.0 c.loop-further.cursor.page.0, c.loop-further.invariant.stands.within)

pub returns-then-further-held : goal.returns-then-further-held
returns-then-further-held c = seek_here c.loop-further.invariant c.entry_count.ensures c.first_entry-cursor.ensures.0 c.if-further-held.true

pub next_page-requires : goal.next_page-requires
next_page-requires c = (c.requires.0, c.loop-further.invariant.stands)

pub loop-further-smaller : goal.loop-further-smaller
loop-further-smaller c = seek_fewer c.loop-further.invariant c.entry_count.ensures c.if-further-held.false c.in_ok-cursor.ensures.0

pub loop-further-preserved : goal.loop-further-preserved
loop-further-preserved c =
    seek_next c.loop-further.invariant c.entry_count.ensures c.if-further-held.false c.in_ok-cursor.ensures.0 refl c.in_ok-cursor.ensures.1

pub returns-in_err-cursor : goal.returns-in_err-cursor
returns-in_err-cursor c =
    rw c.from_residual.ensures (
      seek_end c.loop-further.invariant c.entry_count.ensures c.if-further-held.false c.in_err-cursor.ensures.0 c.first_entry-cursor.ensures.0 refl,
      tt,
    )
