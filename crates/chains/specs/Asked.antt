-- What the functions on a chain ask of the image, by occurrence counts, as the laws of a volume give it.
use Rattle.std.specs.Prelude.{ℕ, ◌+◌, ◌≤◌}
use Rattle.volume.specs.Bytes.{Bytes}
use Rattle.volume.specs.Chain.{chain}
use Rattle.volume.specs.Field.{byte}
use Rattle.volume.proofs.Occ.{Under}
use Rattle.volume.proofs.Grow.{Room}
use Rattle.model.proofs.Version1.{home}
use Rattle.model.specs.Layout.{version1, page_count, free_count, link}

-- the k pages from p on lie in the image
abbrev pub Inside : Bytes → (k p : ℕ) → Type 0
Inside b k p = Under (page_count b) (chain (link b) k p)

-- They can be given back: no link is a byte of the bitmap, and byte 3 can count them.
pub record Returned (b : Bytes) (k p : ℕ) : Type 0 where
  pub inside : Inside b k p
  pub few : page_count b ≤ 256
  pub counted : free_count b + k ≤ 255

-- k pages of n can be added: they are free and counted, a page's number is a byte, and the joint holds 0 and belongs to a marked page, its own.
pub record Growing (n k joint : ℕ) (b : Bytes) : Type 0 where
  pub few : n ≤ 256
  pub counted : k ≤ free_count b
  pub own : ℕ
  pub room : Room version1 home n k (byte joint) own b
