use Rattle.link_judge.specs.Judged.{unjudged, judged_from, rows_from, rows_of}
use mathlib.Core.Path.{◌≡◌}
use Prim.Native.Nat.{◌-◌, ◌/◌}
use lib.ListN.{length}
use Rattle.link_judge.proofs.judge_numbers.Given as goal

abbrev pub invariant-loop-i : goal.invariant-loop-i
invariant-loop-i l = judged_from l.i l.state (rows_from l.numbers (length l.numbers / 3 - l.i) l.i) ≡ judged_from 0 unjudged (rows_of l.numbers)
