-- The list is judged and packed, and what it is packed into is written.
use lib.Seq.{length-take-le}
use native.Mathlib.Omega.{arith}
use mathlib.Core.Path.{sym}
use Rattle.link_judge.specs.Judged.{rows_of}
use Rattle.link_packs.proofs.write.Goals as goal

pub slice_bounds-bytes-end : goal.slice_bounds-bytes-end
slice_bounds-bytes-end c = omega (arith, c.in-Some.ensures.0, c.pack.auto.bytes)

pub slice_bounds-write_packed-end : goal.slice_bounds-write_packed-end
slice_bounds-write_packed-end c = sym (length-take-le _ _ (omega (arith, c.in-Some.ensures.0, c.pack.auto.bytes)))

pub returns-in-Some : goal.returns-in-Some
returns-in-Some c =
    let whole = c.write_packed.ensures (rows_of c.args.numbers.now) c.in-Some.ensures.1 in
    record { result_value = whole.0; image_after = whole.1 }

pub returns-in-None : goal.returns-in-None
returns-in-None c = record { result_value = c.write_long.ensures.result_value; image_after = c.write_long.ensures.image_after }
