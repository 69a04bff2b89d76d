-- Document 01, "The plain tree": what the bytes of an image mean, by its view v; in version 1 v is `view b`. Total on all bytes; the paper gives a
-- meaning to sound images alone.
use Rattle.std.specs.Prelude.{ℕ, zero, suc, take}
use mathlib.Core.List.{List, [], ◌∷◌, flat_map}
use Rattle.volume.specs.Bytes.{Bytes}
use Rattle.volume.specs.Geometry as On
use Rattle.model.specs.Entry.{Entry, vacant, a_file, a_directory}
use Rattle.model.specs.View.{View}
use Rattle.model.specs.Version1.{view}
use Rattle.model.specs.Sound.{pages_of}
use Rattle.model.specs.Tree.{Row, end, free, file, dir, Tree}

-- the bytes of content on page p; in version 1 the 255 bytes after the link
abbrev pub content_on : View → ℕ → Bytes
content_on v p = On.content_on v.geometry v.bytes p

-- the first `size` bytes on a file's pages
unfoldable pub content_of : View → (size : ℕ) → List ℕ → Bytes
content_of v size pages = take size (flat_map (content_on v) pages)

-- an entry before the rest of its row; `below` is the row of the directory that starts on a page
unfoldable pub entry_row : View → (ℕ → Row) → Entry → Row → Row
entry_row v below vacant rest = free rest
entry_row v below (a_file locked name date start size) rest = file locked name date (content_of v size (pages_of v (a_file locked name date start size))) rest
entry_row v below (a_directory name date start size) rest = dir name date (below start) rest

unfoldable pub row_of : View → (ℕ → Row) → List ℕ → Row
row_of v below [] = end
row_of v below (at ∷ ats) = entry_row v below (v.entry_at at) (row_of v below ats)

-- the row of the directory p, read to a depth
unfoldable pub row_at : (depth : ℕ) → View → (directory : ℕ) → Row
row_at zero v p = end
row_at (suc depth) v p = row_of v (row_at depth v) (v.entries p)

-- the tree of an image, whose page code is told; N is deep enough for a sound one (law `depth_enough`)
unfoldable pub tree_in : (code : ℕ) → View → Tree
tree_in code v = record { pages = v.pages; code = code; root = row_at v.pages v 0 }

-- of an image of version 1
abbrev pub tree_of : Bytes → Tree
tree_of b = tree_in 0 (view b)
