-- `zero` stores a zero at each place from the front on.
use Rattle.fields.proofs.Plain.{refl, arith, length-set}
use Rattle.volume.proofs.Fills.{zeroed_none, zeroed_turn, zeroed_all}
use Rattle.shape_pages.proofs.zero.Goals as goal

pub loop-byte-init : goal.loop-byte-init
loop-byte-init c = (omega arith, refl, zeroed_none _)

pub loop-byte-preserved : goal.loop-byte-preserved
loop-byte-preserved c = let inv = c.loop-byte.invariant in (omega arith, simp length-set inv.1, zeroed_turn _ _ _ inv.2 (omega arith))

pub returns : goal.returns
returns c = let inv = c.loop-byte.invariant in zeroed_all _ _ _ inv.2 (omega arith)
