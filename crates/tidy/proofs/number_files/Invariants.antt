use Rattle.model.specs.Layout.{page_count}
use Rattle.moves.specs.Propose.{file_from}
use Rattle.proposals.proofs.Numbers.{Left}
use mathlib.Core.Path.{◌≡◌}
use Prim.Native.Nat.{◌-◌, ◌≤◌}
use mathlib.Core.List.{flat_map}
use Rattle.tidy.proofs.number_files.Given as goal

abbrev pub invariant-loop-p : goal.invariant-loop-p
invariant-loop-p l = (1 ≤ l.p) × (l.p-end ≡ page_count l.image) × Left (flat_map (file_from l.image)) 1 (page_count l.image) l.initial.row l.next l.p l.row

abbrev pub decreases-loop-p : goal.decreases-loop-p
decreases-loop-p l = l.p-end - l.p
