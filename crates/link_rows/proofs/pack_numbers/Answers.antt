-- The rows packed so far with those that are left are the file (`Packing`).
use Rattle.link_rows.proofs.Packs.{packing_first, packing_fits, packing_next, packed_long, packed_all}
use borrow.Author.Rules.{rules}
use native.Mathlib.Omega.{arith}
use Rattle.link_rows.proofs.pack_numbers.Goals as goal

pub loop-i-init : goal.loop-i-init
loop-i-init c = packing_first _ _ c.requires

pub returns-then-bytes-at-lt24 : goal.returns-then-bytes-at-lt24
returns-then-bytes-at-lt24 c = (search packed_long, search rules)

pub put_row-at-requires : goal.put_row-at-requires
put_row-at-requires c = (omega arith, packing_fits _ _ _ _ _ _ c.loop-i.invariant (omega arith) _ c.row_of.ensures)

pub loop-i-preserved : goal.loop-i-preserved
loop-i-preserved c = packing_next _ _ _ _ _ _ c.loop-i.invariant (omega arith) (omega arith) _ c.row_of.ensures _ c.put_row-at.ensures.value _ c.put_row-at.ensures.bytes_after

pub returns : goal.returns
returns c = packed_all _ _ _ _ _ _ c.loop-i.invariant c.loop-i-test.false
