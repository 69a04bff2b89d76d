-- Document 01, "The plain tree". It knows no page numbers, but N and the page code (paper 02 §12) stand beside it.
use Rattle.std.specs.Prelude.{ℕ, zero, suc, ◌+◌, ◌-◌, ◌/◌, Bool, length, eqb, if◌then◌else◌}
use Rattle.std.proofs.Math.Option.{Option, none, some}
use Rattle.volume.specs.Bytes.{Bytes, same}
use Rattle.model.specs.Numbers.{Numbers, numbers1}

-- A directory is its row of entries, each free, or holding a name, a date and either a byte string, locked or not (paper 02 §10), or a directory.
-- A directory holds its own row, then comes the rest of the row that it stands in.
pub data Row : Type 0 where
  end : Row
  free : Row → Row
  file : (locked : Bool) (name date content : Bytes) → Row → Row
  dir : (name date : Bytes) (inner : Row) → Row → Row

pub record Tree : Type 0 where
  pub pages : ℕ
  -- version 1 has no page code, and 0 stands for it
  pub code : ℕ
  pub root : Row

unfoldable pub empty_row : ℕ → Row
empty_row zero = end
empty_row (suc n) = free (empty_row n)

-- the number of entries of a row
unfoldable pub width : Row → ℕ
width end = 0
width (free r) = suc (width r)
width (file l n d v r) = suc (width r)
width (dir n d s r) = suc (width r)

-- the number of entries that are not free
unfoldable pub held : Row → ℕ
held end = 0
held (free r) = held r
held (file l n d v r) = suc (held r)
held (dir n d s r) = suc (held r)

-- no entry is free
abbrev pub is_full : Row → Bool
is_full r = eqb (held r) (width r)

-- ---- pages ("Lists of calls, and the replay"; paper 02 §12: every page of a directory counts)

-- the pages of a directory with so many entries; in version 1 one
abbrev pub directory_needs : Numbers → (width : ℕ) → ℕ
directory_needs n w = if n.grows then w / n.page_entries else 1

-- the pages that a row needs: those of each directory below it, and k for each file
unfoldable pub needs_of : Numbers → Row → ℕ
needs_of n end = 0
needs_of n (free r) = needs_of n r
needs_of n (file l m d v r) = n.pages_for (length v) + needs_of n r
needs_of n (dir m d s r) = directory_needs n (width s) + needs_of n s + needs_of n r

-- the pages that a tree needs: where directories grow, also those of the root after the header
abbrev pub tree_needs : Numbers → Row → ℕ
tree_needs n r = if n.grows then needs_of n r + (width r - n.root_entries) / n.page_entries else needs_of n r

-- In a sound image nothing is cut off here: law `free_sum`.
unfoldable pub free_number_of : Numbers → Tree → ℕ
free_number_of n t = t.pages - n.aside - tree_needs n t.root

-- in version 1
abbrev pub needs : Row → ℕ
needs r = needs_of numbers1 r

abbrev pub free_number : Tree → ℕ
free_number t = free_number_of numbers1 t

-- ---- a name in a row

pub data Node : Type 0 where
  file_node : (locked : Bool) (date content : Bytes) → Node
  directory_node : (date : Bytes) (row : Row) → Node

unfoldable pub lookup : Bytes → Row → Option Node
lookup n end = none
lookup n (free r) = lookup n r
lookup n (file l m d v r) = let rest = lookup n r in if same m n then some (file_node l d v) else rest
lookup n (dir m d s r) = let rest = lookup n r in if same m n then some (directory_node d s) else rest

-- ---- changes of a row ("Lists of calls, and the replay")

-- the lowest free entry filled by e
unfoldable pub fill : (Row → Row) → Row → Row
fill e end = end
fill e (free r) = e r
fill e (file l n d v r) = file l n d v (fill e r)
fill e (dir n d s r) = dir n d s (fill e r)

-- n free entries more at the end
unfoldable pub extend : ℕ → Row → Row
extend n end = empty_row n
extend n (free r) = free (extend n r)
extend n (file l m d v r) = file l m d v (extend n r)
extend n (dir m d s r) = dir m d s (extend n r)

-- the lowest free entry filled by e; where directories grow, a full row has a page of free entries more first (paper 02 §12)
abbrev pub placed : Numbers → (Row → Row) → Row → Row
placed n e = if n.grows then (λ r. fill e (if is_full r then extend n.page_entries r else r)) else fill e

-- the file named n given the bytes w
unfoldable pub rewrite : Bytes → Bytes → Row → Row
rewrite n w end = end
rewrite n w (free r) = free (rewrite n w r)
rewrite n w (file l m d v r) = if same m n then file l m d w r else file l m d v (rewrite n w r)
rewrite n w (dir m d s r) = dir m d s (rewrite n w r)

-- the file named n locked, or not
unfoldable pub relock : Bytes → Bool → Row → Row
relock n k end = end
relock n k (free r) = free (relock n k r)
relock n k (file l m d v r) = if same m n then file k m d v r else file l m d v (relock n k r)
relock n k (dir m d s r) = dir m d s (relock n k r)

-- the entry named n emptied
unfoldable pub vacate : Bytes → Row → Row
vacate n end = end
vacate n (free r) = free (vacate n r)
vacate n (file l m d v r) = if same m n then free r else file l m d v (vacate n r)
vacate n (dir m d s r) = if same m n then free r else dir m d s (vacate n r)

-- f done to the row of the directory named n
unfoldable pub inside : Bytes → (Row → Row) → Row → Row
inside n f end = end
inside n f (free r) = free (inside n f r)
inside n f (file l m d v r) = file l m d v (inside n f r)
inside n f (dir m d s r) = if same m n then dir m d (f s) r else dir m d s (inside n f r)
