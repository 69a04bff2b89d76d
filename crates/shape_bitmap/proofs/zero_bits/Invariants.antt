use Rattle.fields.proofs.Plain.{◌≡◌, min, ◌*◌, ◌≤◌}
use Rattle.std.specs.Int.{div_ceil}
use Rattle.volume.specs.Geometry.{zero_bits}
use Rattle.shape.specs.Geometry.{geometry_of}
use Rattle.shape_bitmap.proofs.zero_bits.Given as goal

abbrev pub invariant-loop-counted : goal.invariant-loop-counted
invariant-loop-counted l =
    (l.counted ≤ l.counted-end) × (l.counted-end ≡ div_ceil l.n 64) × (l.zeros ≤ 64 * l.counted) × (l.zeros ≡ zero_bits (geometry_of l.shape) l.image (min (64 * l.counted) l.n))
