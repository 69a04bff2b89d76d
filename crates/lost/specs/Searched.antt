-- What the search for a lost page asks, and what a lost page is.
use Rattle.std.specs.Prelude.{ℕ, zero, suc, ◌+◌, ◌/◌, ◌≤◌, Bool, true, not, ◌&&◌, List, length, get_or, eqb}
use Rattle.volume.specs.Bytes.{Bytes}
use Rattle.volume.specs.Geometry.{Geometry, page_bit}
use Rattle.shape.specs.declared.Shape.{Shape}

-- what the search for a lost page asks of an image of any shape: the pages set aside are among the first eight, and the bitmap lies in the image,
-- with a word from each of its bytes on
pub record Searched (b : Bytes) (s : Shape) (marks : List ℕ) : Type 0 where
  pub low : s.aside ≤ 8
  pub some : s.aside ≤ length marks
  pub few : length marks ≤ 65536
  pub lies : s.map + length marks / 8 + 8 ≤ length b

-- page p is marked in the bitmap and has no owner
abbrev pub is_lost : Geometry → Bytes → List ℕ → ℕ → Bool
is_lost g b marks p = eqb (get_or marks p 0) 0 && eqb (page_bit g b p) 1

-- the k pages from p on have their owner
unfoldable pub owned_from : List ℕ → (p k : ℕ) → Bool
owned_from marks p zero = true
owned_from marks p (suc k) = not (eqb (get_or marks p 0) 0) && owned_from marks (p + 1) k
