-- `remark` sets one bit a turn, as `remarked` does, or passes over pages whose bits are right, and then stores the count.
use Rattle.fields.proofs.Plain.{arith, refl, ap, ◌∙◌, ⊎_elim, ◌<◌, length, length-set}
use Rattle.repair.proofs.Taken.{count_fits, count_stored}
use Rattle.repair.proofs.Right.{none_yet, still_shown, right_on, set_on}
use Rattle.repair.proofs.remark.Goals as goal

pub loop-p-init : goal.loop-p-init
loop-p-init c = (refl, refl, none_yet _ _ _)

pub right_pages-right-requires : goal.right_pages-right-requires
right_pages-right-requires c =
    let inv = c.loop-p.invariant in
    let pre = c.requires in
    (omega arith, omega arith, omega arith, still_shown _ _ _ _ _ inv.2 (omega arith) inv.0 pre.1 (omega arith) pre.3)

pub loop-p-preserved : goal.loop-p-preserved
loop-p-preserved c =
    let inv = c.loop-p.invariant in
    ⊎_elim
    (λ w. (
      inv.0,
      ap length w.image-is ∙ w.set_bit.auto.image ∙ inv.1,
      set_on _ _ _ _ _ inv.2 (omega arith) _ _ w.is_taken-taken.ensures (w.image-is ∙ w.set_bit.ensures) _ _ w.if-right-eq0.true c.max-p.ensures,
    ))
    (λ w. (
      inv.0,
      ap length w.image-is ∙ inv.1,
      w.image-is ∙ right_on _ _ _ _ _ inv.2 (omega arith) inv.0 _ _ c.right_pages-right.ensures.0 w.if-right-eq0.false c.max-p.ensures,
    ))
    c.if-right-eq0.branch-raw

pub overflow_cast-image : goal.overflow_cast-image
overflow_cast-image c =
    let fits : c.zero_bits-zeros.result < 256 = let inv = c.loop-p.invariant in
    let pre = c.requires in
    count_fits _ _ _ _ _ _ inv.2 (omega arith) inv.0 c.zero_bits-zeros.ensures pre.0 pre.1 (omega arith) in
    omega (arith, fits)

pub shape_of-image : goal.shape_of-image
shape_of-image c = let inv = c.loop-p.invariant in simp length-set inv.1

pub returns : goal.returns
returns c =
    let inv = c.loop-p.invariant in
    count_stored _ _ _ _ _ _ inv.2 (omega arith) inv.0 c.zero_bits-zeros.ensures
