-- What the list is packed into is written.
use lib.Seq.{length-take-le}
use native.Mathlib.Omega.{arith}
use mathlib.Core.Path.{sym}
use Rattle.link_judge.specs.Judged.{rows_of}
use Rattle.link_packs.proofs.write_long.Goals as goal

pub slice_bounds-write_packed-end : goal.slice_bounds-write_packed-end
slice_bounds-write_packed-end c =
    let at-pack = c in
    sym (length-take-le at-pack.pack_long-size.result _ (omega (arith, at-pack.pack_long-size.ensures.0, at-pack.pack_long-size.auto.bytes)))

pub returns : goal.returns
returns c =
    let at-write = c in
    let at-pack = at-write in
    let args = at-pack.args in
    let whole = at-write.write_packed.ensures (rows_of args.numbers.now) at-pack.pack_long-size.ensures.1 in
    record { result_value = whole.0; image_after = whole.1 }
