use Rattle.fields.proofs.Plain.{◌+◌, ◌*◌, ◌-◌, ◌≤◌}
use Rattle.view_laws.specs.Marks.{unowned}
use Rattle.judge.proofs.Walk.{Stands}
use Rattle.judge.proofs.+judge_directory_judge_entry.Given as goal

abbrev pub invariant-judge_directory-loop-i : goal.invariant-judge_directory-loop-i
invariant-judge_directory-loop-i l = (l.i ≤ l.count) × Stands l.image l.directory.0 l.initial.marks l.i l.marks

abbrev pub decreases-judge_directory-loop-i : goal.decreases-judge_directory-loop-i
decreases-judge_directory-loop-i l = l.count - l.i

abbrev pub decreases-judge_directory : goal.decreases-judge_directory
decreases-judge_directory l = 2 * unowned l.marks.now + 1

abbrev pub decreases-judge_entry : goal.decreases-judge_entry
decreases-judge_entry l = 2 * unowned l.marks.now
