-- What the question for free pages asks: the image is formed, the position is in the file, and the file's pages and the free ones are no more than the image has.
use Rattle.std.specs.Prelude.{ℕ, ◌+◌, ◌≤◌, ◌<◌}
use Rattle.volume.specs.Bytes.{Bytes}
use Rattle.volume.specs.Geometry as On
use Rattle.volume.proofs.Follow.{Lies}
use Rattle.model2.specs.Layout.{pages_for}
use Rattle.shape.specs.declared.Shape.{Shape}
use Rattle.shape.specs.Geometry.{geometry_of}

pub record Counted (s : Shape) (size from : ℕ) (b : Bytes) : Type 0 where
  pub lies : Lies (geometry_of s).count b
  pub large : 256 ≤ s.size
  pub bound : s.size ≤ 1024
  pub inside : from ≤ size
  pub sized : size < 4294967296
  pub few : On.free_count (geometry_of s) b + pages_for s.size size ≤ 1023
