use Rattle.fields.proofs.Plain.{◌≡◌, ◌-◌, ◌≤◌}
use Rattle.model.specs.Sound.{marked_below}
use Rattle.model2.specs.Version2.{view2}
use Rattle.rest2.proofs.are_marked.Given as goal

abbrev pub invariant-loop-p : goal.invariant-loop-p
invariant-loop-p l = (l.p ≤ l.n) × (l.marked ≡ marked_below (view2 l.image) l.p)

abbrev pub decreases-loop-p : goal.decreases-loop-p
decreases-loop-p l = l.n - l.p
