use Rattle.numbered2.proofs.Numbered.{Seeking}
use Rattle.cursor2.specs.Row.{row_from}
use Rattle.fields.proofs.Plain.{length}
use Rattle.numbered2.proofs.entry_numbered.Given as goal

abbrev pub invariant-loop-further : goal.invariant-loop-further
invariant-loop-further l = Seeking l.shape l.pages l.image l.i l.initial.cursor l.further l.cursor

abbrev pub decreases-loop-further : goal.decreases-loop-further
decreases-loop-further l = length (row_from l.shape l.pages l.image l.cursor)
