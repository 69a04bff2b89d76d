-- Paper 02 §11: a file is made with its content at once, by whole pages that are stored one after the other: the content's along the chain, then
-- the header, then the parent's if that is another. Every store is worked out from the image before the first.
use Rattle.std.specs.Prelude.{ℕ, ◌+◌, ◌*◌, Bool, true, false, List, [], ◌∷◌, ◌++◌, map, length, get_or, eqb, if◌then◌else◌}
use Rattle.volume.specs.Bytes.{Bytes, part}
use Rattle.model.specs.Layout.{page_size, pages_for}
use Rattle.model.specs.Version1.{view}
use Rattle.model.specs.Sound.{pages_at}
use Rattle.model.specs.Path.{Name, Path, parents}
use Rattle.model.specs.Walk.{parent_page}
use Rattle.model.specs.Effect.{lowest_vacant, file_made, written}

-- make followed by write
unfoldable pub stored : Path → (date content : Bytes) → Bytes → Bytes
stored path date v b = written path 0 v (file_made path date b)

-- a page to be stored, and its 256 bytes
pub record Store : Type 0 where
  pub page : ℕ
  pub bytes : Bytes

-- page p as it is in image b
abbrev pub store_of : Bytes → ℕ → Store
store_of b p = record { page = p; bytes = part (page_size * p) page_size b }

-- the header, then the parent's page if that is another
unfoldable pub last_pages : (parent : ℕ) → List ℕ
last_pages parent = if eqb parent 0 then 0 ∷ [] else 0 ∷ parent ∷ []

-- the pages in order: the new file's along its chain, whose entry a make puts in the parent's lowest vacant one, then the last ones
unfoldable pub store_pages : Path → (date content : Bytes) → Bytes → List ℕ
store_pages path date v b =
    pages_at (view (stored path date v b)) (lowest_vacant b (parent_page b path)) ++ last_pages (parent_page b path)

unfoldable pub stores : Path → (date content : Bytes) → Bytes → List Store
stores path date v b = map (store_of (stored path date v b)) (store_pages path date v b)

-- store k, counted from 0; past the last a refusal stands above all that asks
unfoldable pub store_at : (number : ℕ) → Path → (date content : Bytes) → Bytes → Store
store_at k path date v b = get_or (stores path date v b) k (store_of b 0)

unfoldable pub is_none : List Name → Bool
is_none [] = true
is_none (n ∷ ns) = false

-- How many stores there are, as the tree knows it: the pages of the whole file, the header's, and the parent's if the path has parents. (Law
-- `store_many`: as many as `stores` has.)
unfoldable pub store_count : Path → (content : Bytes) → ℕ
store_count path v = pages_for (length v) + (if is_none (parents path) then 1 else 2)
