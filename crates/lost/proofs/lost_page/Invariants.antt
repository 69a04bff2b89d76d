use Rattle.fields.proofs.Plain.{◌≡◌, max, ◌*◌, ◌-◌, ◌≤◌, length}
use Rattle.shape.specs.Geometry.{geometry_of}
use Rattle.lost.proofs.Lost.{lost_from}
use Rattle.lost.proofs.lost_page.Given as goal

abbrev pub invariant-loop-byte : goal.invariant-loop-byte
invariant-loop-byte l = (l.byte ≤ 9000)
    × (lost_from (geometry_of l.shape) l.image l.marks (length l.marks) l.shape.aside ≡ lost_from (geometry_of l.shape) l.image l.marks (length l.marks) (max l.shape.aside (8 * l.byte)))

abbrev pub decreases-loop-byte : goal.decreases-loop-byte
decreases-loop-byte l = length l.marks - 8 * l.byte
