-- `put_entry` stores one byte of the entry a turn, and so pastes a byte more.
use Rattle.fields.proofs.Plain.{refl, arith, length-set}
use lib.Seq.{paste-zero}
use Rattle.volume.proofs.Fills.{paste_turn, paste_all}
use Rattle.moved_pages.proofs.put_entry.Goals as goal

pub loop-k-init : goal.loop-k-init
loop-k-init c = (omega arith, refl, paste-zero _ c.args.offset c.args.entry.now)

pub loop-k-preserved : goal.loop-k-preserved
loop-k-preserved c =
    let s = c.args in
    let inv = c.loop-k.invariant in
    (omega arith, simp length-set inv.1, paste_turn _ s.offset s.entry.now c.loop-k.k _ inv.2 (omega arith) (omega arith))

pub shape_of-stretch : goal.shape_of-stretch
shape_of-stretch c = c.loop-k.invariant.1

pub returns : goal.returns
returns c =
    let s = c.args in
    paste_all _ s.offset s.entry.now c.loop-k.k _ c.loop-k.invariant.2 (omega arith)
