use Rattle.volume.specs.Lists.{keep}
use Rattle.model.specs.Layout.{page_count}
use Rattle.moves.specs.Propose.{is_other}
use Rattle.proposals.proofs.Numbers.{Left}
use mathlib.Core.Path.{◌≡◌}
use Prim.Native.Nat.{◌-◌, ◌≤◌}
use Rattle.tidy.proofs.number_others.Given as goal

abbrev pub invariant-loop-p : goal.invariant-loop-p
invariant-loop-p l = (1 ≤ l.p) × (l.p-end ≡ page_count l.image) × Left (keep (is_other l.image)) l.next (page_count l.image) l.initial.row l.number l.p l.row

abbrev pub decreases-loop-p : goal.decreases-loop-p
decreases-loop-p l = l.p-end - l.p
