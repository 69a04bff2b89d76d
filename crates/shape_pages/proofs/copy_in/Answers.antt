-- `copy_in` puts what is one piece at once, and else a piece of 1,024 bytes a turn and the rest behind the last.
use Rattle.fields.proofs.Plain.{refl, ◌+◌, ◌-◌, arith, length}
use Rattle.shape_pages.proofs.Pieces.{put_none, put_next, put_last}
use Rattle.shape_pages.proofs.copy_in.Goals as goal

pub returns-then-end-le1024 : goal.returns-then-end-le1024
returns-then-end-le1024 c = c.copy_piece.ensures

pub loop-done-init : goal.loop-done-init
loop-done-init c = (omega arith, refl, refl, put_none c.args.offset c.args.source.now _)

pub loop-done-preserved : goal.loop-done-preserved
loop-done-preserved c =
    let s = c in
    let inv = c.loop-done.invariant in
    let done = c.loop-done.done in
    (omega arith, inv.1, omega (arith, inv.2, c.copy_piece-in-loop-done.auto.part), put_next s.args.offset done (done + 1024 - done) (done + 1024) s.args.source.now s.args.part.now _ _ inv.3 inv.0 (omega (arith, s.requires)) c.copy_piece-in-loop-done.ensures (omega arith))

pub returns : goal.returns
returns c =
    let s = c in
    let inv = c.loop-done.invariant in
    let done = c.loop-done.done in
    let end = length s.args.source.now in
    put_last s.args.offset done (end - done) end s.args.source.now s.args.part.now _ _ inv.3 inv.0 (omega (arith, s.requires)) c.copy_piece-2.ensures (omega (arith, inv.0)) inv.1
