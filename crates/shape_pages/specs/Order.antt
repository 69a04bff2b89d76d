-- The number of free pages stands before the bitmap, as it does in every lawful geometry (`order` of volume's Lawful).
use Rattle.std.specs.Prelude.{◌+◌, ◌≤◌}
use Rattle.volume.specs.Geometry.{Geometry}
use Rattle.volume.proofs.Fields.{place, wide}

abbrev pub CountFirst : Geometry → Type 0
CountFirst g = place g.count + wide g.count ≤ g.map
