use Rattle.volume.specs.Lists.{all, count_from}
use Rattle.model.specs.Layout.{page_count}
use Rattle.proposals.specs.Steps.{leads_on}
use mathlib.Core.Path.{◌≡◌}
use Prim.Native.Nat.{◌-◌, ◌≤◌}
use lib.ListN.{length}
use Rattle.proposals.proofs.all_lead_on.Given as goal

abbrev pub invariant-loop-p : goal.invariant-loop-p
invariant-loop-p l = (1 ≤ l.p) × (l.p-end ≡ length l.places) × (all (leads_on l.image l.places) (count_from 1 (page_count l.image - 1)) ≡ all (leads_on l.image l.places) (count_from l.p (page_count l.image - l.p)))

abbrev pub decreases-loop-p : goal.decreases-loop-p
decreases-loop-p l = length l.places - l.p
