-- The list's judging and its packing are what a writing asks.
use mathlib.Core.Path.{sym}
use native.Mathlib.Omega.{arith}
use lib.Seq.{length-take-le}
use Rattle.link_slices.proofs.Packs.{packed_inside, packed_stands}
use Rattle.link_slices.proofs.write_rows.Goals as goal

pub slice_bounds-bytes-end : goal.slice_bounds-bytes-end
slice_bounds-bytes-end c = omega (arith, packed_inside c.args.rows.now _ _ _ c.pack_rows-size.ensures, c.pack_rows-size.auto.bytes)

pub slice_bounds-write_judged-end : goal.slice_bounds-write_judged-end
slice_bounds-write_judged-end c = sym (length-take-le _ _ (omega (arith, packed_inside c.args.rows.now _ _ _ c.pack_rows-size.ensures, c.pack_rows-size.auto.bytes)))

pub returns : goal.returns
returns c = c.write_judged.ensures c.args.rows.now c.judge_rows-judged.ensures (λ good. packed_stands c.args.rows.now _ _ _ c.pack_rows-size.ensures good (omega arith))
