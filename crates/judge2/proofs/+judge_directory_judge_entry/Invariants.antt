use Rattle.fields.proofs.Plain.{length, ◌+◌, ◌-◌, ◌*◌}
use Rattle.model2.specs.Version2.{view2}
use Rattle.view_laws.specs.Marks.{unowned}
use Rattle.judge2.proofs.Walk.{Walking}
use Rattle.judge2.proofs.Shapes.{Goes}
use Rattle.judge2.proofs.+judge_directory_judge_entry.Given as goal

abbrev pub invariant-judge_directory-loop-met : goal.invariant-judge_directory-loop-met
invariant-judge_directory-loop-met l = Walking (view2 l.image) (l.directory.0) l.initial.marks l.number l.marks × Goes l.image ((view2 l.image).entries (l.directory.0)) l.cursor l.number

abbrev pub decreases-judge_directory-loop-met : goal.decreases-judge_directory-loop-met
decreases-judge_directory-loop-met l = length ((view2 l.image).entries (l.directory.0)) - l.number

abbrev pub decreases-judge_directory : goal.decreases-judge_directory
decreases-judge_directory l = 2 * unowned l.marks.now + 1

abbrev pub decreases-judge_entry : goal.decreases-judge_entry
decreases-judge_entry l = 2 * unowned l.marks.now
