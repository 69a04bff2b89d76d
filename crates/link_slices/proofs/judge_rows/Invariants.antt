use Rattle.std.proofs.Common.{◌≡◌, drop}
use Rattle.link_judge.specs.Judged.{unjudged, judged_from}
use Rattle.link_slices.proofs.judge_rows.Given as goal

abbrev pub invariant-loop-i : goal.invariant-loop-i
invariant-loop-i l = judged_from l.i l.state (drop l.i l.rows) ≡ judged_from 0 unjudged l.rows
