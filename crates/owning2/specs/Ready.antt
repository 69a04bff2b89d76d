-- What the judge asks of what it is handed: the lines 1 and 26 are passed, the shape is the image's, and there is a mark for each page.
use Rattle.std.specs.Prelude.{◌≡◌, ℕ, List, length}
use Rattle.volume.specs.Bytes.{Bytes}
use Rattle.model2.specs.Layout.{page_count, geometry2, code_in}
use Rattle.model2.specs.Version2.{next_by}
use Rattle.laws2.proofs.Bounds.{Allowed}
use Rattle.shape.specs.declared.Shape.{Shape}
use Rattle.shape.specs.Geometry.{geometry_of}

pub record Ready (b : Bytes) (s : Shape) (marks : List ℕ) : Type 0 where
  pub allowed : Allowed (code_in b) (length b)
  pub made : geometry_of s ≡ geometry2 (code_in b) (length b)
  pub each : length marks ≡ page_count (code_in b) (length b)

-- the page that follows another, as the image's view has it
abbrev pub follows : Bytes → ℕ → ℕ
follows b p = next_by (code_in b) (length b) b p
