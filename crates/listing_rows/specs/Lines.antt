-- The lines of a directory and of one of its entries, and what is asked for reading them.
use Rattle.std.specs.Prelude.{◌≡◌, ℕ, ◌+◌, ◌-◌, ◌≤◌, List, ◌++◌, take, drop}
use Rattle.volume.specs.Bytes.{Bytes}
use Rattle.model.specs.Entry.{name_at, entry_at}
use Rattle.model.specs.Name.{unpadded}
use Rattle.model.specs.Version1.{view}
use Rattle.model.specs.Tree.{end}
use Rattle.model.specs.Image.{entry_row, row_at}
use Rattle.model.specs.Text.{text}
use Rattle.model.specs.Listing.{row_lines}
use Rattle.laws.proofs.Counting.{InImage}

-- the lines of the directory on a page, read to a depth, and of the entry at a position with the directories below it read to a depth
unfoldable pub directory_lines : (depth : ℕ) → Bytes → (page : ℕ) → (path : Bytes) → Bytes
directory_lines depth b p path = row_lines path (row_at depth (view b) p)

unfoldable pub entry_lines : (depth : ℕ) → Bytes → (at : ℕ) → (path : Bytes) → Bytes
entry_lines depth b at path = row_lines path (entry_row (view b) (row_at depth (view b)) (entry_at b at) end)

-- the path of the entry at a position in the directory at this path
abbrev pub entry_path : Bytes → (at : ℕ) → (path : Bytes) → Bytes
entry_path b at path = path ++ text "/" ++ unpadded (name_at b at)

-- the pages that are read lie in the image
pub record Readable (b : Bytes) (pages : List ℕ) : Type 0 where
  pub inside : InImage b pages

-- where the name of an entry ends, which is "padded with zeros" (paper 01, the 32 bytes of an entry): what stands before is the name without its zeros
pub record NameEnds (b : Bytes) (at to : ℕ) : Type 0 where
  pub low : at + 1 ≤ to
  pub high : to ≤ at + 17
  pub name : take (to - (at + 1)) (drop (at + 1) b) ≡ unpadded (name_at b at)

-- the path of an entry behind that of its directory, which stays
pub record Extended (b : Bytes) (at : ℕ) (path path' : Bytes) (len r : ℕ) : Type 0 where
  pub whole : take r path' ≡ entry_path b at (take len path)
  pub front : take len path' ≡ take len path
  pub low : len ≤ r
  pub high : r ≤ len + 17
