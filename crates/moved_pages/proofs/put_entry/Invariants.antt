use Rattle.fields.proofs.Plain.{◌≡◌, ◌-◌, ◌≤◌, length}
use lib.Seq.{paste}
use Rattle.moved_pages.proofs.put_entry.Given as goal

abbrev pub invariant-loop-k : goal.invariant-loop-k
invariant-loop-k l = (l.k ≤ 32) × (length l.stretch ≡ length l.initial.stretch) × (l.stretch ≡ paste l.initial.stretch l.offset l.entry l.k)

abbrev pub decreases-loop-k : goal.decreases-loop-k
decreases-loop-k l = 32 - l.k
