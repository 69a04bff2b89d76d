-- `lowest_free_from` looks at one byte a turn: the pages below its lowest zero are taken, and that one is free.
use Rattle.fields.proofs.Plain.{arith}
use Rattle.shape_bitmap.proofs.Search.{bits_of_byte, all_taken, turn_at, search_done}
use Rattle.shape_bitmap.proofs.lowest_free_from.Goals as goal

pub loop-searched-init : goal.loop-searched-init
loop-searched-init c = (omega arith, c.div_ceil-searched-end.ensures, turn_at _ _ _ _ c.requires.1.same)

pub loop-searched-preserved : goal.loop-searched-preserved
loop-searched-preserved c =
    let inv = c.loop-searched.invariant in
    (omega arith, inv.1, turn_at _ _ _ _ (all_taken (bits_of_byte _ _ _ c.from.ensures) c.lowest_zero-k.ensures _ inv.2.so_far (omega arith) _ (omega arith)))

pub returns : goal.returns
returns c = let inv = c.loop-searched.invariant in search_done _ _ _ _ inv.2.so_far (omega arith)
