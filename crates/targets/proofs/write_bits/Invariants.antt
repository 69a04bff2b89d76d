use Rattle.model.specs.Layout.{page_count}
use Rattle.targets.proofs.Target.{BitsLeft}
use mathlib.Core.Path.{◌≡◌}
use Prim.Native.Nat.{◌-◌, ◌/◌, ◌≤◌}
use Rattle.targets.proofs.write_bits.Given as goal

abbrev pub invariant-loop-k : goal.invariant-loop-k
invariant-loop-k l = (l.k ≤ l.used) × (l.used ≡ page_count l.image / 8) × BitsLeft l.image l.pages l.used l.initial.stretch l.k l.stretch

abbrev pub decreases-loop-k : goal.decreases-loop-k
decreases-loop-k l = l.used - l.k
