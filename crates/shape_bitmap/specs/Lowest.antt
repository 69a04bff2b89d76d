-- What an answer says of the lowest free page, and what is known before a search that begins at a byte of the bitmap.
use Rattle.std.specs.Prelude.{◌≡◌, ℕ, ◌+◌, ◌*◌, ◌≤◌, Option, Some, None}
use Rattle.volume.specs.Bytes.{Bytes}
use Rattle.volume.specs.Geometry.{Geometry, lowest_free}
use Rattle.volume.proofs.Search.{lowest_from}
use Rattle.fields.specs.declared.Page.{Page}

-- the number that each answer stands for: the page's, or n where none of n pages is free
abbrev pub number_of : ℕ → Option Page → ℕ
number_of n (Some page) = page.0
number_of n None = n

-- r answers with x, which is a page below n or n itself: None exactly when x is n
pub record Lowest (n x : ℕ) (r : Option Page) : Type 0 where
  pub number : number_of n r ≡ x
  pub none : x ≡ n → r ≡ None

-- of n pages none below those of a byte of the bitmap is free
pub record Before (g : Geometry) (n byte : ℕ) (b : Bytes) : Type 0 where
  pub low : 8 * byte ≤ n + 7
  pub same : lowest_from g b n (8 * byte) ≡ lowest_free g n b
