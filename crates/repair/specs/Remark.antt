-- The bits and the count of an image set anew, in any geometry.
use Rattle.std.specs.Prelude.{ℕ, zero, suc, Bool, if◌then◌else◌}
use Rattle.volume.specs.Bytes.{Bytes}
use Rattle.volume.specs.Field.{store}
use Rattle.volume.specs.Geometry.{Geometry, mark, unmark, zero_bits}

module _ (g : Geometry) where
  -- the bits of the first n pages: 1 for those that pass the test, 0 for the others
  unfoldable pub remarked : (ℕ → Bool) → ℕ → Bytes → Bytes
  remarked f zero b = b
  remarked f (suc n) b = let before = remarked f n b in if f n then mark g n before else unmark g n before

  -- the count is the number of zero bits among the first N
  unfoldable pub recounted : ℕ → Bytes → Bytes
  recounted N b = store g.count (zero_bits g b N) b
