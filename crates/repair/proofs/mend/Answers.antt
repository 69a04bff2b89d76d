-- `mend` is the walk, and on a clean one the bits set by its marks.
use Rattle.fields.proofs.Plain.{arith}
use Rattle.outcomes.proofs.Exits.{told_on}
use Rattle.laws.proofs.Facts.{valid_sized}
use Rattle.repair.proofs.Mending.{of_true, refused_walk, granted_walk}
use Rattle.repair.proofs.Right.{walk_shown}
use Rattle.repair.proofs.mend.Goals as goal

pub returns-in_err-own_pages : goal.returns-in_err-own_pages
returns-in_err-own_pages c =
    let pre = c.requires in
    let whole = refused_walk _ pre.0 pre.1 _ c.in_err-own_pages.ensures in
    record { result_value = told_on _ _ _ _ c.from_residual.ensures.1 whole.0; image_after = whole.1 }

pub remark-requires : goal.remark-requires
remark-requires c =
    let pre = c.requires in
    let sized = valid_sized c.args.image.now (of_true pre.0) in (
      omega (arith, c.own_pages.auto.marks, pre.2.low),
      omega (arith, c.own_pages.auto.marks, pre.2.high),
      omega (arith, sized.low, sized.whole),
      walk_shown _ _ c.in_ok-own_pages.ensures (omega (arith, c.own_pages.auto.marks, pre.2.each)),
    )

pub returns : goal.returns
returns c =
    let pre = c.requires in
    let whole = granted_walk _ pre.0 pre.1 _ _ c.in_ok-own_pages.ensures (omega (arith, c.own_pages.auto.marks, pre.2.each)) c.remark.ensures in
    record { result_value = whole.0; image_after = whole.1 }
