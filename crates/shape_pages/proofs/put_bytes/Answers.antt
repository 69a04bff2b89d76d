-- `put_bytes` stores one byte of the source a turn, and so pastes a byte more.
use Rattle.fields.proofs.Plain.{refl, ◌-◌, arith, length-set}
use lib.Seq.{paste-zero}
use Rattle.volume.proofs.Fills.{paste_turn, paste_all}
use Rattle.shape_pages.proofs.put_bytes.Goals as goal

pub loop-k-init : goal.loop-k-init
loop-k-init c =
    let s = c.args in
    (omega arith, refl, refl, paste-zero _ s.offset s.source.now)

pub loop-k-preserved : goal.loop-k-preserved
loop-k-preserved c =
    let s = c.args in
    let inv = c.loop-k.invariant in
    (omega arith, inv.1, simp length-set inv.2, paste_turn _ s.offset s.source.now c.loop-k.k _ inv.3 (omega arith) (omega arith))

pub shape_of-part : goal.shape_of-part
shape_of-part c = c.loop-k.invariant.2

pub returns : goal.returns
returns c =
    let s = c.args in
    paste_all _ s.offset s.source.now c.loop-k.k _ c.loop-k.invariant.3 (omega arith)
