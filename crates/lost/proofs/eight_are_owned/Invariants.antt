use Rattle.fields.proofs.Plain.{◌≡◌, ◌&&◌, ◌+◌, ◌-◌, ◌≤◌}
use Rattle.lost.specs.Searched.{owned_from}
use Rattle.lost.proofs.eight_are_owned.Given as goal

abbrev pub invariant-loop-mark : goal.invariant-loop-mark
invariant-loop-mark l = (l.mark-index ≤ 8) × (owned_from l.marks l.from 8 ≡ (l.owned && owned_from l.marks (l.from + l.mark-index) (8 - l.mark-index)))

abbrev pub decreases-loop-mark : goal.decreases-loop-mark
decreases-loop-mark l = 8 - l.mark-index
