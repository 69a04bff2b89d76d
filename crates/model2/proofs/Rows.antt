-- Rows that rule out wrong definitions: for each must-fail edit of this crate there is a row here that the edited definitions no longer give. Each edit
-- computes all of them, so none asks a call, which judges a whole image; the tables of every theme, calls too, are in crates/tables2. Each row is computed
-- from the definitions, so it holds by `refl`.
use mathlib.Core.Path.{◌≡◌, refl}
use Prim.Native.Nat.{ℕ}
use mathlib.Core.Bool.{true, false}
use mathlib.Core.List.{List, [], ◌∷◌, ◌++◌, map}
use lib.ListN.{replicate, set}
use Rattle.volume.specs.Bytes.{part, put}
use Rattle.volume.specs.Field.{Field, byte, pair}
use Rattle.model.specs.Entry.{vacant, a_file, a_directory}
use Rattle.model.specs.Tree.{empty_row}
use Rattle.model.specs.Call.{format_as, make_file}
use Rattle.model.specs.MeaningOf.{numbers, tree_of, tree_after}
use Rattle.model.specs.DemandsOf.{fresh_of}
use Rattle.model2.specs.Layout.{root_start, geometry2, pages_for, header_lines}
use Rattle.model2.specs.Entry.{start_field, size_place, size_bytes, entry_at, new_entry}
use Rattle.model2.specs.Version2.{entry_count, numbers2, view2}
use Rattle.model2.specs.Format.{format_lines, formatted}
use Rattle.model2.specs.Calls.{v2}
use Rattle.model2.proofs.Run2.{computing2, told_by}
use Rattle.model2.proofs.Desk2.{day1, day2, called, slot, desk2, desk512}

-- ---- numbers, on no image

-- what format gives for a page code and a length, 0 where it is granted
abbrev formats : List (ℕ × ℕ) → List ℕ
formats ps = map (λ p. told_by (format_lines p.0 p.1)) ps

pub lengths : formats ((0, 0) ∷ (0, 2047) ∷ (0, 2048) ∷ (0, 4608) ∷ (2, 1048576) ∷ (2, 1050624) ∷ (2, 2097152) ∷ [])
    ≡ 1 ∷ 1 ∷ 0 ∷ 1 ∷ 0 ∷ 1 ∷ 1 ∷ []
unfolding computing2
lengths = refl

-- by the document's table, and by 8 pages
pub codes : formats ((0, 65536) ∷ (0, 73728) ∷ (1, 262144) ∷ (1, 270336) ∷ (2, 270336) ∷ (3, 65536) ∷ (1, 2048) ∷ (1, 67584) ∷ (1, 69632) ∷ [])
    ≡ 0 ∷ 26 ∷ 0 ∷ 26 ∷ 0 ∷ 26 ∷ 26 ∷ 26 ∷ 0 ∷ []
unfolding computing2
codes = refl

-- where links, count and bitmap stand, and which pages are set aside
abbrev links : List (ℕ × ℕ) → List Field
links ps = map (λ p. (geometry2 p.0 p.1).link 5) ps

pub places : (links ((0, 65536) ∷ (1, 65536) ∷ (2, 65536) ∷ (1, 69632) ∷ (2, 1048576) ∷ [])
    ≡ byte 261 ∷ byte 517 ∷ byte 1029 ∷ pair 522 ∷ pair 1034 ∷ [])
    × (map (λ n. (geometry2 1 n).aside) (65536 ∷ 69632 ∷ []) ≡ 2 ∷ 3 ∷ [])
    × (map (λ code. (geometry2 code 65536).size) (0 ∷ 1 ∷ 2 ∷ []) ≡ 256 ∷ 512 ∷ 1024 ∷ [])
    × (map (λ code. (geometry2 code 65536).room) (0 ∷ 1 ∷ 2 ∷ []) ≡ 256 ∷ 512 ∷ 1024 ∷ [])
    × ((geometry2 0 2048).count ≡ pair 4)
    × ((geometry2 0 2048).map ≡ 7)
places = (refl, refl, refl, refl, refl, refl)

-- the root's first entry, and how many it has on page 0: N = 200 and 208 with code 0, 512 with code 1, 1,024 with code 2
pub roots : (map root_start (8 ∷ 200 ∷ 208 ∷ 512 ∷ 1024 ∷ []) ≡ 32 ∷ 32 ∷ 64 ∷ 96 ∷ 160 ∷ [])
    × (map (λ n. entry_count 256 n 0) (8 ∷ 200 ∷ 208 ∷ 256 ∷ []) ≡ 7 ∷ 7 ∷ 6 ∷ 6 ∷ [])
    × (entry_count 512 512 0 ∷ entry_count 1024 1024 0 ∷ entry_count 512 512 1 ∷ entry_count 1024 1024 1 ∷ [] ≡ 13 ∷ 27 ∷ 16 ∷ 32 ∷ [])
roots = (refl, refl, refl)

-- the numbers of a version by code and length: what is set aside, what a directory's size is, its entries, and that it grows
pub counted : (map (λ n. (numbers2 1 n).aside) (65536 ∷ 69632 ∷ []) ≡ 2 ∷ 3 ∷ [])
    × (map (λ code. (numbers2 code 65536).page_size) (0 ∷ 1 ∷ 2 ∷ []) ≡ 256 ∷ 512 ∷ 1024 ∷ [])
    × (map (λ code. (numbers2 code 65536).root_entries) (0 ∷ 1 ∷ 2 ∷ []) ≡ 6 ∷ 15 ∷ 31 ∷ [])
    × (map (λ code. (numbers2 code 65536).page_entries) (0 ∷ 1 ∷ 2 ∷ []) ≡ 8 ∷ 16 ∷ 32 ∷ [])
    × ((numbers2 0 2048).grows ≡ true)
counted = (refl, refl, refl, refl, refl)

-- a file of no bytes has a page, and a page is all content
pub sizes : (map (pages_for 256) (0 ∷ 1 ∷ 256 ∷ 257 ∷ 512 ∷ 513 ∷ []) ≡ 1 ∷ 1 ∷ 1 ∷ 2 ∷ 2 ∷ 3 ∷ []) × (map (pages_for 1024) (1024 ∷ 1025 ∷ []) ≡ 1 ∷ 2 ∷ [])
unfolding computing2
sizes = (refl, refl)

-- ---- entries

pub entries_read : (map (λ flags. entry_at (9 ∷ slot flags (called "n") 0x03 0x01 0x04 0x03 0x02 0x01 day1) 1) (0x80 ∷ 0xC0 ∷ 0xBE ∷ 0x81 ∷ 0xC1 ∷ 0x7F ∷ [])
    ≡ a_file false (called "n") day1 259 16909060
    ∷ a_file true (called "n") day1 259 16909060
    ∷ a_file false (called "n") day1 259 16909060
    ∷ a_directory (called "n") day1 259 16909060
    ∷ a_directory (called "n") day1 259 16909060
    ∷ vacant
    ∷ [])
unfolding computing2
entries_read = refl

pub entries_written : (new_entry 0x81 (called "n") 0x01020304 day2 ≡ slot 0x81 (called "n") 0 0 0x04 0x03 0x02 0x01 day2)
    × (start_field 64 ≡ pair 81)
    × (put (size_place 0) (size_bytes 0x01020304) (slot 0x80 (called "n") 3 1 0 0 0 0 day2) ≡ slot 0x80 (called "n") 3 1 0x04 0x03 0x02 0x01 day2)
unfolding computing2
entries_written = (refl, refl, refl)

-- ---- the header, and format

-- 26 stands after 2; the bitmap's bytes are two, and N/8
pub headers : map (λ b. told_by (header_lines b))
    (desk2 ∷ set desk2 0 0x59 ∷ set desk2 1 1 ∷ set (set desk2 1 1) 6 9 ∷ set desk2 6 1 ∷ set desk2 6 3 ∷ set desk2 2 2 ∷ set desk2 3 1 ∷ part 0 2048 desk2 ∷ part 0 2047 desk2 ∷ [])
    ≡ 0 ∷ 2 ∷ 2 ∷ 2 ∷ 26 ∷ 26 ∷ 26 ∷ 26 ∷ 26 ∷ 1 ∷ []
unfolding computing2 desk2
headers = refl

pub formats_whole : (formatted 0 (replicate 2048 0xE5) ≡ 0x5A ∷ 2 ∷ 1 ∷ 0 ∷ 6 ∷ 0 ∷ 0 ∷ 0b11 ∷ (replicate 504 0 ++ replicate 1536 0xE5))
    × (formatted 1 (replicate 4096 0xE5) ≡ 0x5A ∷ 2 ∷ 1 ∷ 0 ∷ 6 ∷ 0 ∷ 1 ∷ 0b11 ∷ (replicate 1016 0 ++ replicate 3072 0xE5))
unfolding computing2
formats_whole = (refl, refl)

-- ---- directories

-- the root and /A have two pages each, /B one; on page 0 the entries stand behind the header
pub pages_of : (map (view2 desk2).directory_pages (0 ∷ 4 ∷ 8 ∷ []) ≡ (0 ∷ 9 ∷ []) ∷ (4 ∷ 11 ∷ []) ∷ (8 ∷ []) ∷ [])
    × ((view2 desk2).entries 0 ≡ 32 ∷ 64 ∷ 96 ∷ 128 ∷ 160 ∷ 192 ∷ 224 ∷ 2304 ∷ 2336 ∷ 2368 ∷ 2400 ∷ 2432 ∷ 2464 ∷ 2496 ∷ 2528 ∷ [])
    × (map (view2 desk2).directory_ends (0 ∷ 4 ∷ 8 ∷ []) ≡ true ∷ true ∷ true ∷ [])
    × (map ((view2 desk2).place_of 0) (0 ∷ 6 ∷ 7 ∷ 14 ∷ []) ≡ (0, 0) ∷ (0, 6) ∷ (9, 0) ∷ (9, 7) ∷ [])
    × (map ((view2 desk2).place_of 4) (0 ∷ 7 ∷ 8 ∷ []) ≡ (4, 0) ∷ (4, 7) ∷ (11, 0) ∷ [])
unfolding computing2 desk2
pages_of = (refl, refl, refl, refl, refl)

-- a directory whose last page links to its first, or to itself, does not end
pub loops : ((view2 (set desk2 267 4)).directory_ends 4 ≡ false) × ((view2 (set desk2 267 11)).directory_ends 4 ≡ false)
unfolding computing2 desk2
loops = (refl, refl)

-- ---- calls

-- 9 is never given, and format gives 1 and 26 alone
pub given : (numbers v2 (make_file [] []) ≡ 1 ∷ 2 ∷ 26 ∷ 16 ∷ 17 ∷ 18 ∷ 20 ∷ 19 ∷ 3 ∷ 4 ∷ 11 ∷ 5 ∷ 6 ∷ 8 ∷ 10 ∷ []) × (numbers v2 (format_as 0) ≡ 1 ∷ 26 ∷ [])
unfolding computing2
given = (refl, refl)

-- N and the code of a fresh tree are those of the new page size
pub fresh_trees : (fresh_of v2 1 69632 ≡ record { pages = 136; code = 1; root = empty_row 15 })
    × (tree_after v2 (format_as 2) (record { pages = 32; code = 0; root = empty_row 3 }) ≡ record { pages = 8; code = 2; root = empty_row 31 })
    × (tree_after v2 (format_as 0) (tree_of v2 desk512) ≡ record { pages = 16; code = 0; root = empty_row 7 })
unfolding computing2 desk512
fresh_trees = (refl, refl, refl)
