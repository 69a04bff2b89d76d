use Rattle.fields.proofs.Plain.{◌≡◌, ◌-◌, length}
use Prim.Native.Nat.{min}
use Rattle.model.specs.Layout.{version1}
use Rattle.repair.specs.Remark.{remarked}
use Rattle.repair.specs.Taken.{is_taken}
use Rattle.repair.proofs.remark.Given as goal

abbrev pub invariant-loop-p : goal.invariant-loop-p
invariant-loop-p l = (l.n ≡ length l.marks) × (length l.image ≡ length l.initial.image) × (l.image ≡ remarked version1 (is_taken l.marks) (min l.p l.n) l.initial.image)

abbrev pub decreases-loop-p : goal.decreases-loop-p
decreases-loop-p l = l.n - l.p
