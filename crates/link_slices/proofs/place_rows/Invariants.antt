use Rattle.std.proofs.Common.{◌≡◌, ◌-◌, length}
use Rattle.link_slices.proofs.Readings.{filled}
use Rattle.link_slices.proofs.place_rows.Given as goal

abbrev pub invariant-loop-i : goal.invariant-loop-i
invariant-loop-i l = (length l.rows ≡ length l.initial.rows) × (filled l.file (l.count - l.i) l.i l.at l.rows ≡ filled l.file l.count 0 0 l.initial.rows)
