use Rattle.fields.proofs.Plain.{◌≡◌, max, ◌≤◌}
use Rattle.std.specs.Int.{div_ceil}
use Rattle.shape.specs.Geometry.{geometry_of}
use Rattle.shape_bitmap.proofs.Search.{Turn}
use Rattle.shape_bitmap.proofs.lowest_free_from.Given as goal

abbrev pub invariant-loop-searched : goal.invariant-loop-searched
invariant-loop-searched l =
    (l.searched ≤ max l.initial.searched l.searched-end) × (l.searched-end ≡ div_ceil l.n 8) × Turn (geometry_of l.shape) l.image l.n l.searched
