use Rattle.fields.proofs.Plain.{◌≡◌, ◌-◌, ◌≤◌, length}
use lib.ListN.{take}
use Rattle.volume.specs.Bytes.{put}
use Rattle.shape_pages.proofs.copy_in.Given as goal

abbrev pub invariant-loop-done : goal.invariant-loop-done
invariant-loop-done l = (l.done ≤ length l.source) × (l.end ≡ length l.source) × (length l.part ≡ length l.initial.part) × (l.part ≡ put l.offset (take l.done l.source) l.initial.part)

abbrev pub decreases-loop-done : goal.decreases-loop-done
decreases-loop-done l = l.end - l.done
