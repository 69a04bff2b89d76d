-- The owner marks that are lent.
use Rattle.std.specs.Prelude.{◌≡◌, ℕ, ◌≤◌, List, length}
use Rattle.volume.specs.Bytes.{Bytes}
use Rattle.model.specs.Layout.{page_count}

-- a mark for each page of the image; page numbers are bytes, so there are at most 256
pub record Marked (b : Bytes) (marks : List ℕ) : Type 0 where
  pub each : length marks ≡ page_count b
  pub low : 1 ≤ length marks
  pub high : length marks ≤ 256
