-- Directories that grow (paper 02 §12): "a drawer, the root too, grows by a page when no slot is empty and never shrinks", "where a make needs two pages, the
-- parent's comes first", "a page added gets link 0", "make's 10 counts a drawer's new page too". Whole images.
use mathlib.Core.Path.{◌≡◌, refl}
use Prim.Native.Nat.{ℕ, ◌+◌}
use mathlib.Core.Bool.{true, false}
use mathlib.Core.List.{List, [], ◌∷◌, ◌++◌, map}
use lib.ListN.{length, replicate, set}
use Rattle.volume.specs.Bytes.{Bytes, put}
use Rattle.model.specs.Tree.{Row, end, free, file, dir, width}
use Rattle.model.specs.Call.{verdict, find, list, make_file, make_directory, write, remove_file, remove_directory, is_file, is_directory, empty, holds, granted}
use Rattle.model.specs.MeaningOf.{tree_of, tree_after}
use Rattle.model.specs.RefusalOf.{free_in}
use Rattle.model.specs.Text.{text}
use Rattle.model2.specs.Calls.{v2}
use Rattle.model2.proofs.Run2.{computing2, Case, ◌gives◌, done, sized, answered, leaves, refusal, Hold, computed, stated, hold}
use Rattle.model2.proofs.Desk2.{day1, day2, called, slot, desk2, full2}

-- a page of one entry, and the header of `full2` with no free page
abbrev one_entry : Bytes → Bytes
one_entry e = e ++ replicate 224 0

abbrev none_free : Bytes → Bytes
none_free b = put 4 (0 ∷ 0 ∷ 0 ∷ 0xFF ∷ 0xFF ∷ 0xFF ∷ []) b

-- The root's eighth entry: page 6 is the root's, page 22 the new file's. Of both the links become 0 and all bytes.
unfoldable pub grown_root : Bytes
grown_root = put 5632 (replicate 256 0) (put 1536 (one_entry (slot 0x80 (called "7") 22 0 0 0 0 0 day2)) (set (set (set (none_free full2) 256 6) 262 0) 278 0))

-- The ninth entry of /D, a directory: page 6 is /D's, page 22 its own.
unfoldable pub grown_d : Bytes
grown_d = put 5632 (replicate 256 0) (put 1536 (one_entry (slot 0x81 (called "x") 22 0 0x00 0x01 0 0 day1)) (set (set (set (none_free full2) 258 6) 262 0) 278 0))

pub two_pages : List Case
two_pages =
    leaves full2 (
    verdict gives sized 24 2
    ∷ list (text "/") 7 gives refusal 12
    ∷ make_file (text "/7") day2 gives done
    ∷ verdict gives sized 24 0
    ∷ list (text "/") 7 gives granted (holds (is_file false) (called "7") 0 day2)
    ∷ list (text "/") 14 gives granted empty
    ∷ list (text "/") 15 gives refusal 12
    -- the root has empty entries now, and no page is free
    ∷ make_file (text "/8") day2 gives refusal 10
    ∷ make_directory (text "/8") day2 gives refusal 10
    ∷ make_file (text "/D/8") day2 gives refusal 10
    ∷ [])
    grown_root
    ∷ leaves full2 (
    list (text "/D") 8 gives refusal 12
    ∷ make_directory (text "/D/x") day1 gives done
    ∷ verdict gives sized 24 0
    ∷ list (text "/D") 8 gives granted (holds is_directory (called "x") 256 day1)
    ∷ list (text "/D") 15 gives granted empty
    ∷ list (text "/D") 16 gives refusal 12
    ∷ list (text "/D/x") 7 gives granted empty
    ∷ list (text "/D/x") 8 gives refusal 12
    ∷ [])
    grown_d
    ∷ []

pub two_pages_hold : Hold two_pages
unfolding computing2 computed stated two_pages full2 grown_root grown_d
two_pages_hold = hold two_pages refl

-- ---- one page fewer

-- `full2` with page 22 as the last of /f, which has 1,537 bytes now: one page is free
unfoldable pub full1 : Bytes
full1 = put 4 (1 ∷ []) (set (put 243 (1 ∷ 6 ∷ []) (set (set full2 279 22) 278 0)) 9 0xFF)

-- Number 10, and nothing changes; with a page for itself alone a make is done where an entry is empty.
pub one_page : List Case
one_page =
    leaves full1 (
    verdict gives sized 24 1
    ∷ make_file (text "/7") day2 gives refusal 10
    ∷ make_directory (text "/7") day2 gives refusal 10
    ∷ make_file (text "/D/8") day2 gives refusal 10
    ∷ make_directory (text "/D/8") day2 gives refusal 10
    -- what stands above 10 in the table comes first, and 9 is nowhere
    ∷ make_file (text "/a") day2 gives refusal 8
    ∷ make_file (text "/D/7") day2 gives refusal 8
    ∷ make_file (text "/7") [] gives refusal 11
    ∷ [])
    full1
    -- the entry of /a is empty, and its page 3 the lowest free one
    ∷ leaves full1 (remove_file (text "/a") gives done ∷ make_directory (text "/7") day2 gives done ∷ make_file (text "/8") day2 gives refusal 10 ∷ verdict gives sized 24 1 ∷ [])
    (put 768 (replicate 256 0) (put 64 (slot 0x81 (called "7") 3 0 0x00 0x01 0 0 day2) full1))
    -- a directory with an empty entry takes no page of its own
    ∷ leaves full1 (remove_file (text "/D/3") gives done ∷ make_file (text "/D/x") day1 gives done ∷ verdict gives sized 24 1 ∷ [])
    (put 1536 (replicate 256 0) (put 608 (slot 0x80 (called "x") 6 0 0 0 0 0 day1) (set (set (set full1 262 0) 7 0xFF) 8 0xDF)))
    ∷ []

pub one_page_hold : Hold one_page
unfolding computing2 computed stated one_page full2 full1
one_page_hold = hold one_page refl

-- ---- never shrinks

-- The root that grew keeps page 6 when its eighth entry is gone, and so does /D. Flags become 0, pages are given back with their bytes and links.
pub stays_grown : List Case
stays_grown =
    leaves grown_root (
    remove_file (text "/7") gives done
    ∷ verdict gives sized 24 1
    ∷ list (text "/") 14 gives granted empty
    ∷ list (text "/") 15 gives refusal 12
    ∷ [])
    (set (set (set grown_root 1536 0) 4 1) 9 0xBF)
    ∷ leaves grown_d (
    remove_directory (text "/D") gives refusal 13
    ∷ remove_directory (text "/D/x") gives done
    ∷ verdict gives sized 24 1
    ∷ list (text "/D") 15 gives granted empty
    -- so the next make takes a page for itself alone
    ∷ make_file (text "/D/8") day2 gives done
    ∷ verdict gives sized 24 0
    ∷ [])
    (put 1536 (slot 0x80 (called "8") 22 0 0 0 0 0 day2) grown_d)
    ∷ []

pub stays_grown_hold : Hold stays_grown
unfolding computing2 computed stated stays_grown full2 grown_root grown_d
stays_grown_hold = hold stays_grown refl

-- ---- given back

-- /A of `desk2` has pages 4 and 11, and both are given back when it is removed; the link of page 4 stays 11.
unfoldable pub without_A : Bytes
without_A = put 4 (13 ∷ 0 ∷ 0 ∷ 0xEF ∷ 0x63 ∷ []) (set (set (set (set desk2 64 0) 1024 0) 1248 0) 2816 0)

-- Then page 4 is the lowest free one: its link becomes 0, and all its bytes.
pub given_back : List Case
given_back =
    leaves desk2 (
    remove_directory (text "/A") gives refusal 13
    ∷ remove_file (text "/A/x") gives done
    ∷ remove_file (text "/A/y") gives done
    ∷ remove_directory (text "/A") gives refusal 13
    ∷ remove_directory (text "/A/C") gives done
    ∷ list (text "/A") 15 gives granted empty
    ∷ verdict gives sized 24 11
    ∷ remove_directory (text "/A") gives done
    ∷ verdict gives sized 24 13
    ∷ [])
    without_A
    ∷ leaves without_A (make_file (text "/q") day1 gives done ∷ verdict gives sized 24 12 ∷ [])
    (put 1024 (replicate 256 0) (set (put 64 (slot 0x80 (called "q") 4 0 0 0 0 0 day1) (put 4 (12 ∷ 0 ∷ 0 ∷ 0xFF ∷ []) without_A)) 260 0))
    ∷ []

pub given_back_hold : Hold given_back
unfolding computing2 computed stated given_back desk2 without_A
given_back_hold = hold given_back refl

-- ---- the plain tree

-- its row grows by the entries of a page and never shrinks, and its free number is the image's count
pub in_the_tree : (tree_of v2 grown_root ≡ tree_after v2 (make_file (text "/7") day2) (tree_of v2 full2))
    × (tree_of v2 grown_d ≡ tree_after v2 (make_directory (text "/D/x") day1) (tree_of v2 full2))
    × (map (λ b. width (tree_of v2 b).root) (full2 ∷ grown_root ∷ grown_d ∷ []) ≡ 7 ∷ 15 ∷ 7 ∷ [])
    × (width (tree_after v2 (remove_file (text "/7")) (tree_of v2 grown_root)).root ≡ 15)
    × (map (λ b. free_in v2 (tree_of v2 b)) (full2 ∷ full1 ∷ grown_root ∷ grown_d ∷ desk2 ∷ without_A ∷ []) ≡ 2 ∷ 1 ∷ 0 ∷ 0 ∷ 8 ∷ 13 ∷ [])
unfolding computing2 full2 full1 grown_root grown_d desk2 without_A
in_the_tree = (refl, refl, refl, refl, refl)
