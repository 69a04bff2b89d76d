-- Document 01, "The plain tree": "Every byte not named here stays." Which bytes each call names, by position, so that the sentence can be said of
-- images (`OnlyTouched`; document 00, demand 2, "changes tree and bytes").
use Rattle.std.specs.Prelude.{ℕ, ◌+◌, ◌*◌, length}
use mathlib.Core.List.{List, [], ◌∷◌, ◌++◌, map, flat_map}
use Rattle.volume.specs.Bytes.{Bytes}
use Rattle.volume.specs.Lists.{count_from, up_to, last_or}
use Rattle.volume.specs.Chain.{along}
use Rattle.volume.specs.Geometry as On
use Rattle.model.specs.Layout.{page_size, room, version1, page_count}
use Rattle.model.specs.Version1.{view}
use Rattle.model.specs.Sound.{pages_at}
use Rattle.model.specs.Path.{path_of}
use Rattle.model.specs.Image.{tree_of}
use Rattle.model.specs.Walk.{parent_page, entry_position}
use Rattle.model.specs.Effect.{lowest_vacant}
use Rattle.model.specs.Call.{Call, format_as, verdict, find, list, read, make_file, make_directory, write, remove_file, remove_directory, set_lock, store_as}
use Rattle.model.specs.Refusal.{wanted}

-- ---- pages

-- The pages that a call takes, as many as it needs: "Each page added is the lowest free one at that moment".
abbrev pub taken : Call → Bytes → List ℕ
taken c b = On.gained version1 (page_count b) (wanted c (tree_of b)) b

-- "The bitmap and byte 3 follow": the pages whose bit may change, those taken and those that a removal gives back. Format sets all bits anew.
unfoldable pub moved : Call → Bytes → List ℕ
moved (format_as new) b = up_to (page_count b)
moved verdict b = []
moved (find path) b = []
moved (list path entry) b = []
moved (read path position buffer) b = []
moved (make_file path date) b = taken (make_file path date) b
moved (make_directory path date) b = taken (make_directory path date) b
moved (write path position bytes) b = taken (write path position bytes) b
moved (remove_file path) b = pages_at (view b) (entry_position b (path_of path))
moved (remove_directory path) b = pages_at (view b) (entry_position b (path_of path))
moved (set_lock locked path) b = []
moved (store_as has path date content number buffer) b = []

-- ---- positions

-- What the header page holds of pages: byte 3, and the bitmap byte of each. Bitmap bytes past N/8, and the reserved area, "are ignored and kept".
unfoldable pub account : (pages : List ℕ) → List ℕ
account ps = flat_map (λ p. 3 ∷ On.bitmap_byte version1 p ∷ []) ps

-- all bytes of pages
unfoldable pub bytes_on : (pages : List ℕ) → List ℕ
bytes_on ps = flat_map (λ p. count_from (page_size * p) page_size) ps

-- the link of a file's last page, if pages are added behind it
unfoldable pub last_link : (pages added : List ℕ) → List ℕ
last_link ps [] = []
last_link ps (q ∷ qs) = page_size * last_or 0 ps ∷ []

-- Make: "All 32 bytes are written" of the new entry; the pages taken, which are zeroed.
unfoldable pub by_make : (at : ℕ) (added : List ℕ) → List ℕ
by_make at qs = count_from at 32 ++ account qs ++ bytes_on qs

-- Write of n bytes: the size in the file's entry; the pages taken, which are zeroed, and the link to the first of them; and the positions at which
-- these bytes of the content stand.
unfoldable pub by_write : (at from n : ℕ) (pages added : List ℕ) → List ℕ
by_write at from n ps qs =
    count_from (at + 18) 2 ++ account qs ++ bytes_on qs ++ last_link ps qs ++ map (along (On.content version1) room (ps ++ qs)) (count_from from n)

-- Remove: the flags byte, "the other 31 bytes stay, freed pages keep their bytes".
unfoldable pub by_removal : (at : ℕ) (pages : List ℕ) → List ℕ
by_removal at ps = count_from at 1 ++ account ps

-- Format: "Bytes from 256 on stay." Write: "m = 0 changes nothing." To lock and unlock a file is to change its flags byte (paper 02 §10).
unfoldable pub touched : Call → Bytes → List ℕ
touched (format_as new) b = bytes_on (0 ∷ [])
touched verdict b = []
touched (find path) b = []
touched (list path entry) b = []
touched (read path position buffer) b = []
touched (make_file path date) b = by_make (lowest_vacant b (parent_page b (path_of path))) (moved (make_file path date) b)
touched (make_directory path date) b = by_make (lowest_vacant b (parent_page b (path_of path))) (moved (make_directory path date) b)
touched (write path position []) b = []
touched (write path position (x ∷ v)) b =
    let at = entry_position b (path_of path) in
    by_write at position (length (x ∷ v)) (pages_at (view b) at) (moved (write path position (x ∷ v)) b)
touched (remove_file path) b = by_removal (entry_position b (path_of path)) (moved (remove_file path) b)
touched (remove_directory path) b = by_removal (entry_position b (path_of path)) (moved (remove_directory path) b)
touched (set_lock locked path) b = count_from (entry_position b (path_of path)) 1
touched (store_as has path date content number buffer) b = []
