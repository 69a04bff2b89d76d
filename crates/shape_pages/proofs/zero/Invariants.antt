use Rattle.fields.proofs.Plain.{◌≡◌, ◌≤◌, length}
use Rattle.volume.proofs.Fills.{zeroed}
use Rattle.shape_pages.proofs.zero.Given as goal

abbrev pub invariant-loop-byte : goal.invariant-loop-byte
invariant-loop-byte l = (l.byte-index ≤ length l.initial.byte-items) × (length l.byte-items ≡ length l.initial.byte-items) × (l.byte-items ≡ zeroed l.initial.byte-items l.byte-index)
