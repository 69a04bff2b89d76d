use Rattle.link_rows.proofs.Packs.{Packing}
use Prim.Native.Nat.{◌/◌}
use lib.ListN.{length}
use Rattle.link_rows.proofs.pack_numbers.Given as goal

abbrev pub invariant-loop-i : goal.invariant-loop-i
invariant-loop-i l = Packing l.numbers (length l.numbers / 3) l.i l.at l.initial.bytes l.bytes
