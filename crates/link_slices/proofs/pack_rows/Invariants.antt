use Rattle.std.proofs.Common.{◌≡◌, drop}
use Rattle.link_slices.specs.Writing.{packed_from}
use Rattle.link_slices.proofs.pack_rows.Given as goal

abbrev pub invariant-loop-row : goal.invariant-loop-row
invariant-loop-row l = packed_from l.at l.bytes (drop l.row-index l.rows) ≡ packed_from 0 l.initial.bytes l.rows
