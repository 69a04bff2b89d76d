use Rattle.fields.proofs.Plain.{◌≡◌, ◌-◌, ◌≤◌, length}
use lib.Seq.{paste}
use Rattle.shape_pages.proofs.put_bytes.Given as goal

abbrev pub invariant-loop-k : goal.invariant-loop-k
invariant-loop-k l = (l.k ≤ length l.source) × (l.k-end ≡ length l.source) × (length l.part ≡ length l.initial.part) × (l.part ≡ paste l.initial.part l.offset l.source l.k)

abbrev pub decreases-loop-k : goal.decreases-loop-k
decreases-loop-k l = l.k-end - l.k
