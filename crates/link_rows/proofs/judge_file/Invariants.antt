use Rattle.link_rows.specs.Told.{counted}
use Rattle.link_rows.proofs.Readings.{counted_at}
use Rattle.link_list.specs.Judging.{read_list}
use mathlib.Core.Path.{◌≡◌}
use Prim.Native.Nat.{◌-◌, ◌≤◌}
use lib.ListN.{length}
use Rattle.link_rows.proofs.judge_file.Given as goal

abbrev pub invariant-loop-at : goal.invariant-loop-at
invariant-loop-at l = (l.at ≤ length l.file) × (l.i ≤ l.at) × (counted_at l.file l.i l.at l.last ≡ counted 0 (read_list l.file))

abbrev pub decreases-loop-at : goal.decreases-loop-at
decreases-loop-at l = length l.file - l.at
