use Rattle.model.specs.Layout.{page_count}
use Rattle.targets.proofs.Target.{Laid}
use mathlib.Core.Path.{◌≡◌}
use Prim.Native.Nat.{◌-◌, ◌≤◌}
use Rattle.targets.proofs.write_moved.Given as goal

abbrev pub invariant-loop-q : goal.invariant-loop-q
invariant-loop-q l = (1 ≤ l.q) × (l.q-end ≡ page_count l.image) × Laid l.image l.places l.q l.target

abbrev pub decreases-loop-q : goal.decreases-loop-q
decreases-loop-q l = l.q-end - l.q
