use Rattle.model2.specs.Entry.{name_at}
use Rattle.cursor2.specs.Row.{row_from}
use Rattle.names2.specs.Reached.{apart}
use Rattle.names2.proofs.Names.{Asking}
use Rattle.names2.proofs.name_is_fresh.Given as goal

abbrev pub invariant-loop-left : goal.invariant-loop-left
invariant-loop-left l = Asking (apart l.image (name_at l.image l.at)) l.shape l.pages l.image (row_from l.shape l.pages l.image l.initial.other) l.number l.other l.left

abbrev pub decreases-loop-left : goal.decreases-loop-left
decreases-loop-left l = l.other.left
