-- Each turn puts one entry behind those that stand.
use Rattle.model.specs.Entry.{entry_count}
use Rattle.moved_pages.proofs.Laid.{entries_first, entries_turn, entries_last}
use Prim.Native.Nat.{◌≤◌}
use native.Mathlib.Omega.{arith}
use Rattle.moved_pages.proofs.move_entries.Goals as goal

pub entry_count-count-requires : goal.entry_count-count-requires
entry_count-count-requires c = tt

pub loop-i-init : goal.loop-i-init
loop-i-init c = (omega arith, entries_first _ _ _ _ c.requires.1)

pub overflow_sub-at : goal.overflow_sub-at
overflow_sub-at c = omega (arith, c.entry_position-at.ensures.0, c.first_byte-first.ensures)

pub move_entry-requires : goal.move_entry-requires
move_entry-requires c = omega (arith, c.entry_position-at.ensures.0, c.first_byte-first.ensures)

pub loop-i-preserved : goal.loop-i-preserved
loop-i-preserved c =
    let move-entry = c in
    let entry_position = move-entry in
    let turn = entry_position in
    let first_byte = turn in
    let start = first_byte in (
      omega arith,
      entries_turn _ _ _ _ _ _ _ _ _ start.requires.0 (omega arith) entry_position.entry_position-at.ensures.0
          first_byte.first_byte-first.ensures turn.loop-i.invariant.1 move-entry.move_entry.ensures move-entry.move_entry.auto.stretch,
    )

pub shape_of-stretch : goal.shape_of-stretch
shape_of-stretch c = omega (arith, c.loop-i.invariant.1.long)

pub returns : goal.returns
returns c =
    let turn = c in
    let start = turn in
    let l : entry_count start.args.directory.0 ≤ turn.loop-i.i = omega arith in
    let u : turn.loop-i.i ≤ entry_count start.args.directory.0 = omega arith in
    entries_last _ _ _ _ _ _ l u turn.loop-i.invariant.1
