use Rattle.fields.proofs.Plain.{length}
use Rattle.cursor2.specs.Row.{row_from}
use Rattle.lists2.proofs.Widths.{Counting}
use Rattle.lists2.proofs.width_of.Given as goal

abbrev pub invariant-loop-next : goal.invariant-loop-next
invariant-loop-next l = Counting l.shape l.pages l.image l.initial.cursor l.passed l.cursor

abbrev pub decreases-loop-next : goal.decreases-loop-next
decreases-loop-next l = length (row_from l.shape l.pages l.image l.cursor)
