-- What is seen of bytes of the bitmap that mark no page.
use Rattle.std.specs.Prelude.{◌≡◌, ℕ, ◌+◌, ◌*◌, ◌<◌, ◌≤◌}
use Rattle.volume.specs.Bytes.{Bytes}
use Rattle.volume.specs.Geometry.{Geometry, page_bit}

-- the k bytes from byte `from` of the bitmap on mark no page
pub record Clear (g : Geometry) (b : Bytes) (from k : ℕ) : Type 0 where
  pub each : (p : ℕ) → 8 * from ≤ p → p < 8 * from + 8 * k → page_bit g b p ≡ 0
