use Rattle.fields.proofs.Plain.{◌≡◌, ◌≤◌, ◌*◌, ◌-◌, length}
use Rattle.volume.specs.Bytes.{put, zeros}
use Rattle.format2.proofs.zero_aside.Given as goal

abbrev pub invariant-loop-page : goal.invariant-loop-page
invariant-loop-page l = (l.page ≤ l.shape.aside) × (l.page-end ≡ l.shape.aside) × (length l.image ≡ length l.initial.image) × (l.image ≡ put 0 (zeros (l.shape.size * l.page)) l.initial.image)

abbrev pub decreases-loop-page : goal.decreases-loop-page
decreases-loop-page l = l.page-end - l.page
