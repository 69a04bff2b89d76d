use Rattle.moved_pages.proofs.Laid.{LaidEntries}
use Prim.Native.Nat.{◌-◌, ◌≤◌}
use Rattle.moved_pages.proofs.move_entries.Given as goal

abbrev pub invariant-loop-i : goal.invariant-loop-i
invariant-loop-i l = (l.i ≤ l.count) × LaidEntries l.places l.image l.directory.0 l.initial.stretch l.i l.stretch

abbrev pub decreases-loop-i : goal.decreases-loop-i
decreases-loop-i l = l.count - l.i
