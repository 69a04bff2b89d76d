use Rattle.std.proofs.Common.{sym, arith, length-take-le}
use Rattle.std.proofs.lemmas.List.{length-take}
use Rattle.listing.proofs.write_part.Goals as goal

-- what was put into the window lies in it
pub slice_bounds-part-end : goal.slice_bounds-part-end
slice_bounds-part-end g c =
    let p = c.listing_part-n in
    omega (arith, simp length-take at p.ensures.0, p.auto.out)

pub slice_bounds-write_all-end : goal.slice_bounds-write_all-end
slice_bounds-write_all-end g c =
    let p = c.listing_part-n in
    sym (length-take-le p.result p.new.out (omega (arith, simp length-take at p.ensures.0, p.auto.out)))
