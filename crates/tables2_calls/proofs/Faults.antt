-- Every fault with its number and place (paper 02 §2 and §12), on `desk2`, whose root has pages 0 and 9 and whose /A has pages 4 and 11. Of an image with one
-- fault the place is that of the fault; with two, of the first in the judge's order.
use mathlib.Core.Path.{refl}
use mathlib.Core.List.{List, [], ◌∷◌}
use lib.ListN.{replicate, set}
use Rattle.volume.specs.Bytes.{Bytes, put}
use Rattle.model.specs.Call.{verdict, find, list, read, make_file, make_directory, write, remove_file, remove_directory, set_lock}
use Rattle.model2.proofs.Run2.{computing2, Case, ◌gives◌, done, sized, answered, leaves, unsound, sounds, refusal_of, Hold, computed, stated, hold}
use Rattle.model2.proofs.Desk2.{desk2, full2}

-- ---- 17, 18 and 20 of the root's own pages: page 0, entry 255, and the pages passed after page 0

pub roots : List Case
roots =
    -- the link of page 0 leads to the table, past the end, or to a file's page, which is then owned twice
    unsound (set desk2 256 1) 17 0 255 0
    ∷ unsound (set desk2 256 24) 17 0 255 0
    ∷ unsound (set desk2 256 255) 17 0 255 0
    ∷ unsound (set desk2 256 2) 18 2 0 0
    -- the link of page 9
    ∷ unsound (set desk2 265 1) 17 0 255 1
    ∷ unsound (set desk2 265 24) 17 0 255 1
    ∷ unsound (set desk2 265 9) 18 9 0 0
    ∷ unsound (set desk2 265 16) 20 16 0 0
    ∷ unsound (set desk2 8 0xFD) 20 9 0 0
    -- a root without page 9: that is marked, and nobody's
    ∷ unsound (set desk2 256 0) 19 7 0 0
    -- they are judged before the root's entries, of which the first has no name here
    ∷ unsound (set (set desk2 33 0) 265 1) 17 0 255 1
    ∷ unsound (set desk2 33 0) 16 0 0 0
    ∷ []

pub roots_hold : Hold roots
unfolding computing2 computed stated roots desk2
roots_hold = hold roots refl

-- ---- 16 and 17 name the entry's own page and its place there

pub entries : List Case
entries =
    -- names: not legal, and equal across a directory's pages
    unsound (set desk2 2305 0x2F) 16 9 0 0
    ∷ unsound (set desk2 2529 0x37) 16 9 7 0
    ∷ unsound (set desk2 2529 0x41) 16 9 7 0
    ∷ unsound (set desk2 2817 0x78) 16 11 0 0
    -- a directory's size is that of a page
    ∷ unsound (put 83 (0 ∷ 2 ∷ []) desk2) 16 0 1 0
    ∷ unsound (set desk2 85 1) 16 0 1 0
    ∷ unsound (set desk2 2547 1) 16 9 7 0
    ∷ unsound (set desk2 2835 1) 16 11 0 0
    -- start pages: the table's, the header, past the end, with the high byte
    ∷ unsound (set desk2 145 1) 17 0 3 0
    ∷ unsound (set desk2 145 0) 17 0 3 0
    ∷ unsound (set desk2 145 24) 17 0 3 0
    ∷ unsound (set desk2 146 1) 17 0 3 0
    ∷ unsound (set desk2 2321 1) 17 9 0 0
    ∷ unsound (set desk2 1265 1) 17 4 7 0
    ∷ unsound (set desk2 2833 1) 17 11 0 0
    ∷ unsound (set desk2 81 1) 17 0 1 0
    ∷ unsound (set desk2 81 0) 17 0 1 0
    ∷ unsound (set desk2 82 1) 17 0 1 0
    -- a file's chain: too short, too long, through the table, and with sizes that want other pages
    ∷ unsound (set desk2 258 0) 17 0 0 1
    ∷ unsound (set desk2 261 0) 17 0 0 2
    ∷ unsound (set desk2 258 1) 17 0 0 1
    ∷ unsound (set desk2 259 7) 17 0 0 3
    ∷ unsound (put 51 (0 ∷ 2 ∷ []) desk2) 17 0 0 2
    ∷ unsound (put 51 (1 ∷ 3 ∷ []) desk2) 17 0 0 3
    ∷ unsound (set desk2 53 1) 17 0 0 3
    ∷ unsound (set desk2 2325 1) 17 9 0 1
    ∷ []

pub entries_hold : Hold entries
unfolding computing2 computed stated entries desk2
entries_hold = hold entries refl

-- ---- a directory's chain runs to link 0

pub directories : List Case
directories =
    -- the link of its first page, and of its second
    unsound (set desk2 260 1) 17 0 1 1
    ∷ unsound (set desk2 260 24) 17 0 1 1
    ∷ unsound (set desk2 260 4) 18 4 0 0
    ∷ unsound (set desk2 260 2) 18 2 0 0
    ∷ unsound (set desk2 260 16) 20 16 0 0
    ∷ unsound (set desk2 267 1) 17 0 1 2
    ∷ unsound (set desk2 267 24) 17 0 1 2
    ∷ unsound (set desk2 267 4) 18 4 0 0
    ∷ unsound (set desk2 267 11) 18 11 0 0
    ∷ unsound (set desk2 8 0xF7) 20 11 0 0
    -- with one page only, what was on the second is lost
    ∷ unsound (set desk2 260 0) 19 11 0 0
    -- inside itself
    ∷ unsound (set desk2 2833 4) 18 4 0 0
    ∷ unsound (set desk2 264 8) 18 8 0 0
    ∷ []

pub directories_hold : Hold directories
unfolding computing2 computed stated directories desk2
directories_hold = hold directories refl

-- ---- 19 and 3: lost pages, the bits of the pages set aside, and the count

pub counts : List Case
counts =
    unsound (set (set desk2 9 1) 4 7) 19 16 0 0
    ∷ unsound (set desk2 9 1) 19 16 0 0
    ∷ unsound (set (set desk2 9 0x80) 4 7) 19 23 0 0
    -- a table page is nobody's and never lost; its bit at 0 gives 3, with the count as it was and with one that is then right, and so does page 0's
    ∷ unsound (set desk2 7 0xFD) 3 0 0 0
    ∷ unsound (set (set desk2 7 0xFD) 4 9) 3 0 0 0
    ∷ unsound (set desk2 7 0xFE) 3 0 0 0
    ∷ unsound (set (set desk2 7 0xFE) 4 9) 3 0 0 0
    -- a lost page comes before that, and every other fault before a lost page
    ∷ unsound (set (set desk2 7 0xFD) 9 1) 19 16 0 0
    ∷ unsound (set (set desk2 9 1) 145 1) 17 0 3 0
    -- the count, in both its bytes
    ∷ unsound (set desk2 4 7) 3 0 0 0
    ∷ unsound (set desk2 4 9) 3 0 0 0
    ∷ unsound (set desk2 5 1) 3 0 0 0
    ∷ []

pub counts_hold : Hold counts
unfolding computing2 computed stated counts desk2
counts_hold = hold counts refl

-- ---- what may hold anything: links of the table's pages, of free pages and past N, the bytes of free pages and of empty entries, and bits past N

pub any_bytes : List Case
any_bytes =
    sounds desk2 24 8
    ∷ sounds (set desk2 257 0) 24 8
    ∷ sounds (set desk2 257 1) 24 8
    ∷ sounds (put 272 (2 ∷ 2 ∷ 1 ∷ 0 ∷ 24 ∷ 255 ∷ 16 ∷ 23 ∷ []) desk2) 24 8
    ∷ sounds (put 280 (replicate 232 2) desk2) 24 8
    ∷ sounds (put 4096 (replicate 2048 0xFF) desk2) 24 8
    ∷ sounds (put 10 (replicate 22 0xFF) desk2) 24 8
    ∷ sounds full2 24 2
    ∷ []

pub any_bytes_hold : Hold any_bytes
unfolding computing2 computed stated any_bytes desk2 full2
any_bytes_hold = hold any_bytes refl
