-- What `name_owners` is lent.
use Rattle.std.specs.Prelude.{◌≡◌, ℕ, List, T}
use Rattle.volume.specs.Bytes.{Bytes}
use Rattle.model.specs.Sound.{sound}
use Rattle.owner_rows.specs.Says.{no_owners}

-- a sound image, and a row in which nobody owns a page yet
pub record Unnamed (b : Bytes) (row : List ℕ) : Type 0 where
  pub is_sound : T (sound b)
  pub zeros : row ≡ no_owners
