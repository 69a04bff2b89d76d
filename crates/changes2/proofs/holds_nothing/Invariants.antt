use Rattle.fields.proofs.Plain.{length, not}
use Rattle.model.specs.Effect.{is_vacant}
use Rattle.model2.specs.Entry.{entry_at}
use Rattle.cursor2.specs.Row.{row_from}
use Rattle.cursor2.proofs.Seeking.{Seeking}
use Rattle.changes2.proofs.holds_nothing.Given as goal

abbrev pub invariant-loop-shape : goal.invariant-loop-shape
invariant-loop-shape l = Seeking (λ at. not (is_vacant (entry_at l.image at))) l.shape l.n l.image l.initial.cursor l.cursor

abbrev pub decreases-loop-shape : goal.decreases-loop-shape
decreases-loop-shape l = length (row_from l.shape l.n l.image l.cursor)
