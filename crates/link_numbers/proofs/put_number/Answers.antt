-- The groups put so far with those of the rest are those of the number (`Putting`).
use Rattle.link_numbers.proofs.Puts.{putting_first, putting_next, putting_last}
use native.Mathlib.Omega.{arith}
use lib.ListN.{length-set}
use Rattle.link_numbers.proofs.put_number.Goals as goal

pub loop-rest-init : goal.loop-rest-init
loop-rest-init c = search putting_first

pub loop-rest-preserved : goal.loop-rest-preserved
loop-rest-preserved c = search putting_next

pub shape_of-bytes : goal.shape_of-bytes
shape_of-bytes c = let inv = c.loop-rest.invariant in simp length-set inv.long

pub returns : goal.returns
returns c =
    let last = putting_last _ _ _ _ _ _ c.requires.0 c.loop-rest.invariant (omega arith) in
    record { value = last.0; bytes_after = last.1 }
