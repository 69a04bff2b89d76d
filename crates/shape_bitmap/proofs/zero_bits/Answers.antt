-- `zero_bits` counts a word a turn: its ones and the zeros of its pages make the bits looked at.
use Rattle.fields.proofs.Plain.{arith, ◌*◌, ◌<◌}
use Rattle.shape_bitmap.proofs.Search.{count_first, zeros_more, count_done}
use Rattle.shape_bitmap.proofs.zero_bits.Goals as goal

pub loop-counted-init : goal.loop-counted-init
loop-counted-init c = (omega arith, c.div_ceil-counted-end.ensures, omega arith, count_first _ _ _)

pub loop-counted-preserved : goal.loop-counted-preserved
loop-counted-preserved c =
    let inv = c.loop-counted.invariant in
    let below : 64 * c.loop-counted.counted < c.args.n = omega arith in
    let more = zeros_more _ _ c.bits64.ensures _ _ _ _ below c.min.ensures c.zeros_among-zeros.ensures inv.3 in
    (omega arith, inv.1, omega arith, more)

pub returns : goal.returns
returns c = let inv = c.loop-counted.invariant in count_done _ _ _ _ _ inv.3 (omega arith)
