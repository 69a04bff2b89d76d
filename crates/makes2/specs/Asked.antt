-- What a make asks of an image once it is granted: of one on which it finds its opening and the free pages are enough.
use Rattle.std.specs.Prelude.{◌≡◌, ℕ, suc, ◌≤◌, List, if◌then◌else◌}
use Rattle.std.proofs.Math.Option.{Option}
use Rattle.volume.specs.Bytes.{Bytes}
use Rattle.volume.specs.Geometry as On
use Rattle.model.specs.Path.{Name}
use Rattle.model.specs.Walk.{arrived, walk_on}
use Rattle.model2.specs.Version2.{view2}
use Rattle.arrivals.specs.Openings.{is_none, vacancy_in}
use Rattle.shape.specs.declared.Shape.{Shape}
use Rattle.known2.specs.Known.{Known}

-- An entry with k pages can be made in the directory p, whose lowest vacant entry is this one, if it has one: it is one that some names lead to, and the pages
-- are free, with one more if the directory must grow.
pub record Fillable (s : Shape) (n p : ℕ) (vacancy : Option ℕ) (k : ℕ) (b : Bytes) : Type 0 where
  pub known : Known b s n
  pub ns : List Name
  pub walked : walk_on (view2 b) ns 0 ≡ arrived p
  pub lowest : vacancy ≡ vacancy_in (view2 b) p
  pub enough : (if is_none vacancy then suc k else k) ≤ On.zero_bits (view2 b).geometry b (view2 b).pages
