-- Hand-made images read by `view2`: pages, entries, trees and walks, with directories of one page and of two, and pages of each size.
use mathlib.Core.Path.{◌≡◌, refl}
use Prim.Native.Nat.{ℕ, zero, suc, ◌+◌}
use Prim.Native.String.{String}
use mathlib.Core.Bool.{Bool, true, false}
use mathlib.Core.Option.{none, some}
use mathlib.Core.List.{List, [], ◌∷◌, ◌++◌, map}
use lib.ListN.{length, replicate, set}
use Rattle.volume.specs.Bytes.{Bytes, put}
use Rattle.volume.specs.Lists.{up_to}
use Rattle.volume.specs.Geometry as On
use Rattle.model.specs.View.{next}
use Rattle.model.specs.Sound.{good_directory, reached, owned, pages_at}
use Rattle.model.specs.Tree.{Row, end, free, file, dir}
use Rattle.model.specs.Path.{parents, path_of}
use Rattle.model.specs.Image.{row_at}
use Rattle.model.specs.Walk.{Walked, arrived, missing, blocked, entry_named, walk_on}
use Rattle.model.specs.Text.{text}
use Rattle.model2.specs.Version2.{view2}
use Rattle.model2.proofs.Run2.{computing2}
use Rattle.model2.proofs.Desk2.{day1, day2, called, stretch, desk2, desk512, desk1024}

abbrev vacants : ℕ → Row → Row
vacants zero r = r
vacants (suc n) r = free (vacants n r)

-- ---- desk2: pages of 256

-- a chain runs to link 0, the root's from page 0 on
pub pages : ((view2 desk2).pages ≡ 24)
    × (map (view2 desk2).directory_pages (0 ∷ 4 ∷ 8 ∷ 13 ∷ 15 ∷ 2 ∷ []) ≡ (0 ∷ 9 ∷ []) ∷ (4 ∷ 11 ∷ []) ∷ (8 ∷ []) ∷ (13 ∷ []) ∷ (15 ∷ []) ∷ (2 ∷ 5 ∷ 3 ∷ []) ∷ [])
    × (map (view2 desk2).directory_ends (0 ∷ 4 ∷ 8 ∷ []) ≡ true ∷ true ∷ true ∷ [])
    × ((view2 desk2).entries 4 ≡ 1024 ∷ 1056 ∷ 1088 ∷ 1120 ∷ 1152 ∷ 1184 ∷ 1216 ∷ 1248 ∷ 2816 ∷ 2848 ∷ 2880 ∷ 2912 ∷ 2944 ∷ 2976 ∷ 3008 ∷ 3040 ∷ [])
    × (map (λ i. (view2 desk2).place_of 0 i) (up_to 15)
    ≡ (0, 0) ∷ (0, 1) ∷ (0, 2) ∷ (0, 3) ∷ (0, 4) ∷ (0, 5) ∷ (0, 6) ∷ (9, 0) ∷ (9, 1) ∷ (9, 2) ∷ (9, 3) ∷ (9, 4) ∷ (9, 5) ∷ (9, 6) ∷ (9, 7) ∷ [])
    × (map ((view2 desk2).place_of 4) (0 ∷ 7 ∷ 8 ∷ 15 ∷ []) ≡ (4, 0) ∷ (4, 7) ∷ (11, 0) ∷ (11, 7) ∷ [])
unfolding computing2 desk2
pages = (refl, refl, refl, refl, refl, refl)

-- what is reached and owned; bits and count agree with it
pub owners : (reached 24 (view2 desk2) 0 ≡ 32 ∷ 64 ∷ 1024 ∷ 1248 ∷ 2816 ∷ 128 ∷ 160 ∷ 224 ∷ 2304 ∷ 2528 ∷ [])
    × (owned 24 (view2 desk2) 0 ≡ 2 ∷ 5 ∷ 3 ∷ 4 ∷ 11 ∷ 10 ∷ 12 ∷ 15 ∷ 6 ∷ 13 ∷ 14 ∷ 7 ∷ 8 ∷ [])
    × (map (On.page_bit (view2 desk2).geometry desk2) (up_to 24) ≡ replicate 16 1 ++ replicate 8 0)
    × (On.free_count (view2 desk2).geometry desk2 ≡ 8)
    × (On.zero_bits (view2 desk2).geometry desk2 24 ≡ 8)
    × (good_directory 24 (view2 desk2) 0 ≡ true)
unfolding computing2 desk2
owners = (refl, refl, refl, refl, refl, refl)

-- the tree: a directory's row has the entries of all its pages
pub tree : row_at 24 (view2 desk2) 0 ≡
    file false (called "0042") day1 (stretch 0 600)
    (dir (called "A") day2
    (file false (called "x") day2 []
    (vacants 6 (file false (called "y") day2 (stretch 7 200)
    (dir (called "C") day1 (vacants 8 end) (vacants 7 end)))))
    (free
    (file true (called "L") day1 []
    (dir (called "K") day2 (vacants 8 end)
    (free
    (file false (called "sixteen letters!") day1 (stretch 1000 256)
    (file false (called "7") day1 (0x37 ∷ [])
    (vacants 6 (dir (called "B") day1 (vacants 8 end) end)))))))))
unfolding computing2 desk2
tree = refl

-- where a path's names lead, up to its last, and where that stands
abbrev walked : Bytes → String → Walked ℕ
walked b path = walk_on (view2 b) (parents (path_of (text path))) 0

abbrev stands : Bytes → (directory : ℕ) → String → ℕ
stands b p name = elim (entry_named (view2 b) p (called name)) [ none ↦ 0 | some at ↦ at ]

pub walks : (walked desk2 "/B/z" ≡ arrived 8)
    × (walked desk2 "/A/C/z" ≡ arrived 15)
    × (walked desk2 "/A/y/z" ≡ blocked 3)
    × (walked desk2 "/7/z" ≡ blocked 1)
    × (walked desk2 "/A/B/z" ≡ missing 3)
    × (walked desk2 "/Q/z" ≡ missing 1)
    × (map (stands desk2 0) ("0042" ∷ "A" ∷ "sixteen letters!" ∷ "7" ∷ "B" ∷ "C" ∷ "x" ∷ []) ≡ 32 ∷ 64 ∷ 224 ∷ 2304 ∷ 2528 ∷ 0 ∷ 0 ∷ [])
    × (map (stands desk2 4) ("x" ∷ "y" ∷ "C" ∷ "7" ∷ "a" ∷ []) ≡ 1024 ∷ 1248 ∷ 2816 ∷ 0 ∷ 0 ∷ [])
unfolding computing2 desk2
walks = (refl, refl, refl, refl, refl, refl, refl, refl)

-- ---- desk2, damaged

abbrev good : List Bytes → List Bool
good bs = map (λ b. good_directory 24 (view2 b) 0) bs

-- links of the table, of free pages and past N are nobody's; names must differ across a directory's pages, /7 and /B from those on page 0, and names of
-- different directories need not
pub other_bytes : (good (set desk2 257 0 ∷ put 272 (replicate 240 9) desk2 ∷ set desk2 2305 0x38 ∷ set desk2 2305 0x78 ∷ []) ≡ true ∷ true ∷ true ∷ true ∷ [])
    × (good (set desk2 2305 0x4C ∷ set desk2 2529 0x41 ∷ set desk2 2529 0x37 ∷ set desk2 2817 0x78 ∷ []) ≡ false ∷ false ∷ false ∷ false ∷ [])
unfolding computing2 desk2
other_bytes = (refl, refl)

-- A file's chain has exactly its pages: /0042 with one more, and /L, which is empty, with a link; /0042 with 512, 513, 768, 769 and 66,136 bytes. (Where a
-- link is 0 too early the next page is the header: that is a matter of its range.)
pub chains : (good (set desk2 259 7 ∷ set desk2 262 16 ∷ []) ≡ false ∷ false ∷ [])
    × (good (put 51 (0 ∷ 2 ∷ []) desk2 ∷ put 51 (1 ∷ 2 ∷ []) desk2 ∷ put 51 (0 ∷ 3 ∷ []) desk2 ∷ put 51 (1 ∷ 3 ∷ []) desk2 ∷ []) ≡ false ∷ true ∷ true ∷ false ∷ [])
    × (pages_at (view2 (put 51 (1 ∷ 3 ∷ []) desk2)) 32 ≡ 2 ∷ 5 ∷ 3 ∷ 0 ∷ [])
    × (pages_at (view2 (set desk2 258 0)) 32 ≡ 2 ∷ 0 ∷ 9 ∷ [])
    × (length (pages_at (view2 (set desk2 53 1)) 32) ≡ 259)
unfolding computing2 desk2
chains = (refl, refl, refl, refl, refl)

-- a directory has the size of a page, and ends: not with a link back to itself, nor to its first page, nor with 24 pages and a link
pub directories : (good (put 83 (0 ∷ 2 ∷ []) desk2 ∷ put 83 (0 ∷ 0 ∷ []) desk2 ∷ put 85 (1 ∷ []) desk2 ∷ put 83 (1 ∷ 1 ∷ []) desk2 ∷ []) ≡ false ∷ false ∷ false ∷ false ∷ [])
    × (map (λ b. (view2 b).directory_ends 4) (set desk2 267 11 ∷ set desk2 267 4 ∷ set desk2 267 16 ∷ set desk2 260 0 ∷ []) ≡ false ∷ false ∷ false ∷ true ∷ [])
    × ((view2 (set desk2 260 0)).directory_pages 4 ≡ 4 ∷ [])
    × ((view2 (set desk2 265 9)).directory_pages 0 ≡ 0 ∷ replicate 23 9)
    × ((view2 (set desk2 265 9)).directory_ends 0 ≡ false)
    × ((view2 (set (set desk2 265 16) 272 0)).directory_pages 0 ≡ 0 ∷ 9 ∷ 16 ∷ [])
    × ((view2 (set (set desk2 265 16) 272 0)).place_of 0 15 ≡ (16, 0))
unfolding computing2 desk2
directories = (refl, refl, refl, refl, refl, refl, refl)

-- ---- pages of 512 and of 1,024

pub tree512 : (row_at 8 (view2 desk512) 0 ≡
    vacants 14 (dir (called "D") day1 (vacants 15 (file false (called "f") day2 (stretch 0 512 ++ (0x42 ∷ [])) end)) (vacants 16 end)))
    × ((view2 desk512).directory_pages 0 ≡ 0 ∷ 6 ∷ [])
    × (owned 8 (view2 desk512) 0 ≡ 2 ∷ 5 ∷ 4 ∷ [])
    × (map (On.page_bit (view2 desk512).geometry desk512) (up_to 8) ≡ 1 ∷ 1 ∷ 1 ∷ 0 ∷ 1 ∷ 1 ∷ 1 ∷ 0 ∷ [])
    × (map ((view2 desk512).place_of 0) (14 ∷ 15 ∷ 30 ∷ []) ≡ (0, 14) ∷ (6, 0) ∷ (6, 15) ∷ [])
    × ((view2 desk512).place_of 2 15 ≡ (2, 15))
    × (good_directory 8 (view2 desk512) 0 ≡ true)
    × (good_directory 8 (view2 (put 499 (0 ∷ 1 ∷ []) desk512)) 0 ≡ false)
unfolding computing2 desk512
tree512 = (refl, refl, refl, refl, refl, refl, refl, refl)

pub tree1024 : (row_at 8 (view2 desk1024) 0 ≡
    vacants 30 (dir (called "D") day1 (vacants 31 (file false (called "f") day2 (stretch 0 1024 ++ (0x42 ∷ [])) end)) end))
    × (owned 8 (view2 desk1024) 0 ≡ 2 ∷ 3 ∷ 7 ∷ [])
    × (map (On.page_bit (view2 desk1024).geometry desk1024) (up_to 8) ≡ 1 ∷ 1 ∷ 1 ∷ 1 ∷ 0 ∷ 0 ∷ 0 ∷ 1 ∷ [])
    × (map ((view2 desk1024).place_of 0) (0 ∷ 30 ∷ []) ≡ (0, 0) ∷ (0, 30) ∷ [])
    × ((view2 desk1024).place_of 2 31 ≡ (2, 31))
    × (good_directory 8 (view2 desk1024) 0 ≡ true)
    × (walked desk1024 "/D/f" ≡ arrived 2)
    × (stands desk1024 2 "f" ≡ 3040)
unfolding computing2 desk1024
tree1024 = (refl, refl, refl, refl, refl, refl, refl, refl)
