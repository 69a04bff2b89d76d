-- Version 2 as a view: what paper 02 §12 says, with its numbers, in the order of a view's fields. `Layout` and `Entry` have the definitions.
use Rattle.std.specs.Prelude.{ℕ, ◌+◌, ◌-◌, ◌*◌, ◌/◌, Bool, true, length, eqb, ltb, if◌then◌else◌}
use mathlib.Core.List.{List, [], ◌∷◌, map, flat_map}
use Rattle.volume.specs.Bytes.{Bytes}
use Rattle.volume.specs.Lists.{up_to}
use Rattle.volume.specs.Chain.{chain, beyond, linked}
use Rattle.volume.specs.Geometry as On
use Rattle.model.specs.Numbers.{Numbers}
use Rattle.model.specs.View.{View, EntryLayout}
use Rattle.model2.specs.Layout.{page_size, page_count, set_aside, root_start, geometry2, pages_for, code_in}
use Rattle.model2.specs.Entry.{start_field, size_at, size_place, size_bytes, entry_at, new_entry}

-- ---- a directory's pages: "A drawer's chain runs to link 0"

abbrev pub linked_pages : (next : ℕ → ℕ) → (most : ℕ) → ℕ → List ℕ
linked_pages next most p = chain next (linked next most p) p

-- the last of them has link 0
abbrev pub linked_ends : (next : ℕ → ℕ) → (most : ℕ) → ℕ → Bool
linked_ends next most p = eqb (beyond next (linked next most p) p) 0

-- ---- its entries, with N pages of some size: on page 0 behind the header to the page's end, on any other page from its first byte on

abbrev pub entry_count : (size pages page : ℕ) → ℕ
entry_count size n p = if eqb p 0 then (size - root_start n) / 32 else size / 32

abbrev pub entries_start : (size pages page : ℕ) → ℕ
entries_start size n p = if eqb p 0 then root_start n else size * p

unfoldable pub entries_on : (size pages page : ℕ) → List ℕ
entries_on size n p = map (λ i. entries_start size n p + 32 * i) (up_to (entry_count size n p))

-- the place of entry i of a directory with these pages: its own page and its number there
unfoldable pub place_on : (count : ℕ → ℕ) → List ℕ → (entry : ℕ) → ℕ × ℕ
place_on count [] i = (0, i)
place_on count (p ∷ ps) i = let further = place_on count ps (i - count p) in if ltb i (count p) then (p, i) else further

-- ---- the numbers, and the view

-- of an image of so many bytes with a page code: the pages set aside; a page's bytes; k = max 1 ((size + page size - 1) / page size); the root's entries on
-- page 0, and those of any other page; and directories grow
abbrev pub numbers2 : (code length : ℕ) → Numbers
numbers2 code n = record {
  aside = set_aside n;
  page_size = page_size code;
  pages_for = pages_for (page_size code);
  root_entries = (page_size code - root_start (page_count code n)) / 32;
  page_entries = page_size code / 32;
  grows = true;
}

-- the page that follows page p
abbrev pub next_by : (code length : ℕ) → Bytes → ℕ → ℕ
next_by code n b p = On.next (geometry2 code n) b p

-- the place of entry i of a directory: "16 and 17 name the slot's own page and place there"
abbrev pub place_by : (code length : ℕ) → Bytes → (directory entry : ℕ) → ℕ × ℕ
place_by code n b p i = place_on (entry_count (page_size code) (page_count code n)) (linked_pages (next_by code n b) (page_count code n) p) i

-- the bytes of an image, read with a page code and a length
abbrev pub view_by : (code length : ℕ) → Bytes → View
view_by code n b = record {
  bytes = b;
  -- pages of 256, 512 or 1,024 bytes, all content; links in a table from page 1 on; the count in bytes 4 and 5, the bitmap from byte 7 on
  geometry = geometry2 code n;
  -- N = length / page size
  pages = page_count code n;
  numbers = numbers2 code n;
  -- a directory has the pages from its first on by their links, to link 0, and the entries of all of them
  directory_pages = linked_pages (next_by code n b) (page_count code n);
  directory_ends = linked_ends (next_by code n b) (page_count code n);
  entries = λ p. flat_map (entries_on (page_size code) (page_count code n)) (linked_pages (next_by code n b) (page_count code n) p);
  -- flags 0, name 1 to 16, start page 17 and 18, size 19 to 22, date 23 to 30
  entry_at = entry_at b;
  place_of = place_by code n b;
}

-- with the page code in byte 6 and the image's own length
abbrev pub view2 : Bytes → View
view2 b = view_by (code_in b) (length b) b

-- what calls write of an entry: start page 17 and 18, size 19 to 22, low byte first
abbrev pub layout2 : EntryLayout
layout2 = record { start_field = start_field; size_at = size_at; size_place = size_place; size_bytes = size_bytes; new_entry = new_entry }
