-- What is known of an image of version 2 and of the shape and the number of pages that the code has for it: when lines 1, 2 and 26 are passed, and when
-- the image was judged too.
use Rattle.std.specs.Prelude.{◌≡◌, ℕ, length}
use Rattle.volume.specs.Bytes.{Bytes}
use Rattle.view_laws.proofs.Facts.{Facts}
use Rattle.model2.specs.Layout.{page_count, geometry2, code_in}
use Rattle.model2.specs.Version2.{view2}
use Rattle.laws2.proofs.Bounds.{Allowed}
use Rattle.shape.specs.declared.Shape.{Shape}
use Rattle.shape.specs.Geometry.{geometry_of}

-- its length and page code are allowed, the shape is its own, and n is N
pub record Formed (b : Bytes) (s : Shape) (n : ℕ) : Type 0 where
  pub allowed : Allowed (code_in b) (length b)
  pub made : geometry_of s ≡ geometry2 (code_in b) (length b)
  pub count : n ≡ page_count (code_in b) (length b)

-- and it is sound
pub record Known (b : Bytes) (s : Shape) (n : ℕ) : Type 0 where
  pub formed : Formed b s n
  pub facts : Facts (view2 b)
