-- The facts of a sound image one by one: an image that lacks just that fact, and the fault that is told of it, by number and place. Which of two
-- faults is told. And what does not count. Each row is computed from the definitions, so it holds by `refl`.
use mathlib.Core.Path.{refl}
use Prim.Native.Nat.{ℕ}
use mathlib.Core.Bool.{true, false}
use mathlib.Core.List.{List, [], ◌∷◌, ◌++◌, map, foldl, flat_map}
use lib.ListN.{replicate, set}
use Rattle.volume.specs.Bytes.{Bytes, part, put}
use Rattle.volume.specs.Lists.{up_to}
use Rattle.volume.specs.Geometry as On
use Rattle.model.specs.Layout.{version1}
use Rattle.model.specs.Sound.{sound, owned_pages, owners}
use Rattle.model.specs.Call.{verdict, find, list, make_file, make_directory, write, remove_file, is_file, is_directory, empty, granted}
use Rattle.model.specs.Text.{text}
use Rattle.model.specs.Judge.{clean, judge, is_clean}
use Rattle.model.proofs.Run.{computing, Case, ◌gives◌, done, sized, answered, shown, unsound, Hold, computed, stated, hold}
use Rattle.model.proofs.Desk.{day1, found, entry, whole, header, stored, fresh, note, one, two, three, box, desk, shelf, far}

-- sound, with so many free pages; the judge marks these pages of 8
abbrev clear : Bytes → ℕ → List ℕ → Case
clear b free pages = shown b (verdict gives sized 8 free ∷ []) judge (clean (foldl (λ marks p. set marks p 1) (replicate 8 0) pages))

-- 16 pages: nine directories on pages 1 to 9, each in the one before
nested : Bytes
nested = 0x5A ∷ 0x01 ∷ 0x02 ∷ 6 ∷ 0b11111111 ∷ 0b11 ∷ replicate 58 0 ++ stored 0x81 (text "1" ++ replicate 15 0) 1 0x00 0x01 day1 ++ replicate 160 0
    ++ flat_map (λ p. stored 0x81 (text "1" ++ replicate 15 0) p 0x00 0x01 day1 ++ replicate 224 0) (2 ∷ 3 ∷ 4 ∷ 5 ∷ 6 ∷ 7 ∷ 8 ∷ 9 ∷ [])
    ++ replicate 256 0
    ++ replicate 1536 0xE5

pub sounds : List Case
sounds =
    clear fresh 7 []
    ∷ clear note 6 (1 ∷ [])
    ∷ clear one 6 (1 ∷ [])
    ∷ clear two 5 (2 ∷ 1 ∷ [])
    ∷ clear box 6 (1 ∷ [])
    ∷ clear desk 2 (4 ∷ 3 ∷ 2 ∷ 5 ∷ 1 ∷ [])
    ∷ clear shelf 2 (5 ∷ 4 ∷ 3 ∷ 2 ∷ 1 ∷ [])
    ∷ clear (three 0x43) 4 (3 ∷ 2 ∷ 1 ∷ [])
    ∷ shown far [] judge (clean (set (replicate 16 0) 9 1))
    ∷ answered nested (verdict gives sized 16 6 ∷ find (text "/1/1/1/1/1/1/1/1/1") gives found is_directory 256 day1 ∷ [])
    ∷ []

pub facts : List Case
facts =
    -- length and header (which the calls ask before the rest)
    shown (one ++ 0 ∷ []) [] sound false
    ∷ shown (set one 0 0x5B) [] sound false
    ∷ shown (set one 1 2) [] sound false
    ∷ shown (set one 2 2) [] sound false
    -- bit 0 of the bitmap, with the count that then is right; byte 3 off by one
    ∷ unsound (put 3 (7 ∷ 0b10 ∷ []) one) 3 0 0 0
    ∷ unsound (set one 3 5) 3 0 0 0
    ∷ unsound (set one 3 7) 3 0 0 0
    -- legal names: the bytes 1F, 20, 2F, 7E and 7F, first and later
    ∷ unsound (set one 65 0x1F) 16 0 0 0
    ∷ clear (set one 65 0x20) 6 (1 ∷ [])
    ∷ unsound (set one 65 0x2F) 16 0 0 0
    ∷ clear (set one 65 0x7E) 6 (1 ∷ [])
    ∷ unsound (set one 65 0x7F) 16 0 0 0
    ∷ unsound (set one 66 0x1F) 16 0 0 0
    ∷ clear (set one 66 0x20) 6 (1 ∷ [])
    ∷ unsound (set one 66 0x2F) 16 0 0 0
    ∷ clear (set one 66 0x7E) 6 (1 ∷ [])
    ∷ unsound (set one 66 0x7F) 16 0 0 0
    -- no byte at all, a byte behind the padding, and 16 bytes without padding
    ∷ unsound (set one 65 0) 16 0 0 0
    ∷ unsound (set one 67 0x41) 16 0 0 0
    ∷ unsound (set one 80 0x41) 16 0 0 0
    ∷ clear (put 65 (replicate 16 0x41) one) 6 (1 ∷ [])
    ∷ unsound (set box 65 0x7F) 16 0 0 0
    ∷ unsound (set desk 513 0x7F) 16 2 0 0
    ∷ unsound (set desk 545 0x7F) 16 2 1 0
    -- equal names in one directory, told at the later entry; in two directories they are apart
    ∷ unsound (set two 97 0x41) 16 0 1 0
    ∷ unsound (set desk 545 0x37) 16 2 1 0
    ∷ unsound (three 0x41) 16 0 2 0
    ∷ unsound (three 0x42) 16 0 2 0
    ∷ unsound (put 3 (5 ∷ 0b111 ∷ []) (put 96 (stored 0x80 (text "A" ++ replicate 15 0) 2 0x00 0x00 day1) (set box 512 0))) 16 0 1 0
    ∷ clear (set desk 513 0x41) 2 (4 ∷ 3 ∷ 2 ∷ 5 ∷ 1 ∷ [])
    -- a directory's size
    ∷ unsound (set box 82 0x01) 16 0 0 0
    ∷ unsound (set box 83 0x00) 16 0 0 0
    ∷ unsound (set box 83 0x02) 16 0 0 0
    ∷ unsound (set desk 563 0x00) 16 2 1 0
    -- the last page's link is not 0; it may lead back, to a free page, or out of the image
    ∷ unsound (set one 256 1) 17 0 0 1
    ∷ unsound (set one 256 5) 17 0 0 1
    ∷ unsound (set one 256 8) 17 0 0 1
    ∷ unsound (set two 512 1) 17 0 1 1
    ∷ unsound (set shelf 1024 7) 17 0 1 3
    -- an empty file's page does not begin with 0
    ∷ unsound (set note 256 1) 17 0 0 1
    ∷ unsound (set note 256 5) 17 0 0 1
    ∷ unsound (set note 256 0xE5) 17 0 0 1
    ∷ unsound (set desk 768 6) 17 2 0 1
    -- an empty file with start page 0, and one whose start page is out of range
    ∷ unsound (put 3 (7 ∷ 0b1 ∷ []) (set note 81 0)) 17 0 0 0
    ∷ unsound (put 3 (3 ∷ 0b110111 ∷ []) (set desk 529 0)) 17 2 0 0
    ∷ unsound (put 3 (7 ∷ 0b1 ∷ []) (set note 81 8)) 17 0 0 0
    -- a page out of range: of a file, of a directory, and after the first
    ∷ unsound (put 3 (7 ∷ 0b1 ∷ []) (set one 81 8)) 17 0 0 0
    ∷ unsound (put 3 (7 ∷ 0b1 ∷ []) (set one 81 255)) 17 0 0 0
    ∷ unsound (put 3 (7 ∷ 0b1 ∷ []) (set one 81 0)) 17 0 0 0
    ∷ unsound (put 3 (7 ∷ 0b1 ∷ []) (set box 81 8)) 17 0 0 0
    ∷ unsound (put 3 (7 ∷ 0b1 ∷ []) (set box 81 0)) 17 0 0 0
    ∷ unsound (put 3 (6 ∷ 0b11 ∷ []) (put 82 (0x00 ∷ 0x01 ∷ []) (set one 256 8))) 17 0 0 1
    ∷ unsound (set desk 113 8) 17 0 1 0
    ∷ unsound (set desk 561 8) 17 2 1 0
    -- the chain ends early
    ∷ unsound (put 82 (0x00 ∷ 0x01 ∷ []) one) 17 0 0 1
    ∷ unsound (put 82 (0xFD ∷ 0x02 ∷ []) (set (set two 96 0) 256 2)) 17 0 0 2
    -- a page owned twice, by two files, a file and a directory, two directories; nothing is lost
    ∷ unsound (put 3 (6 ∷ 0b11 ∷ []) (set two 113 1)) 18 1 0 0
    ∷ unsound (put 128 (stored 0x80 (text "C" ++ replicate 15 0) 2 0xFF 0x00 day1) two) 18 2 0 0
    ∷ unsound (put 96 (stored 0x80 (text "B" ++ replicate 15 0) 1 0xFF 0x00 day1) box) 18 1 0 0
    ∷ unsound (put 96 (stored 0x81 (text "B" ++ replicate 15 0) 1 0x00 0x01 day1) box) 18 1 0 0
    -- the page of an empty file owned twice: by two empty files, by an empty file and a longer one, by an empty file and a directory
    ∷ unsound (put 96 (stored 0x80 (text "B" ++ replicate 15 0) 1 0x00 0x00 day1) note) 18 1 0 0
    ∷ unsound (put 96 (stored 0x80 (text "B" ++ replicate 15 0) 1 0x00 0x00 day1) one) 18 1 0 0
    ∷ unsound (put 96 (stored 0x80 (text "B" ++ replicate 15 0) 1 0xFF 0x00 day1) note) 18 1 0 0
    ∷ unsound (put 96 (stored 0x80 (text "B" ++ replicate 15 0) 1 0x00 0x00 day1) box) 18 1 0 0
    -- a chain that returns to itself
    ∷ unsound (put 82 (0xFE ∷ 0x01 ∷ []) (set one 256 1)) 18 1 0 0
    ∷ unsound (put 82 (0xFD ∷ 0x02 ∷ []) (set (set (set two 96 0) 256 2) 512 1)) 18 1 0 0
    -- a directory that holds itself, and one that holds what it stands in
    ∷ unsound (put 256 (stored 0x81 (text "A" ++ replicate 15 0) 1 0x00 0x01 day1) box) 18 1 0 0
    ∷ unsound (put 1024 (stored 0x81 (text "A" ++ replicate 15 0) 2 0x00 0x01 day1) desk) 18 2 0 0
    -- a page that is owned and marked free, of a file, of an empty one and of a directory
    ∷ unsound (put 3 (7 ∷ 0b1 ∷ []) one) 20 1 0 0
    ∷ unsound (put 3 (7 ∷ 0b1 ∷ []) note) 20 1 0 0
    ∷ unsound (put 3 (7 ∷ 0b1 ∷ []) box) 20 1 0 0
    ∷ unsound (put 3 (3 ∷ 0b110111 ∷ []) desk) 20 3 0 0
    ∷ unsound (put 3 (3 ∷ 0b101111 ∷ []) desk) 20 4 0 0
    -- a page that is marked and nobody owns; the lowest is told
    ∷ unsound (put 3 (6 ∷ 0b11 ∷ []) fresh) 19 1 0 0
    ∷ unsound (put 3 (5 ∷ 0b100011 ∷ []) one) 19 5 0 0
    ∷ unsound (put 3 (5 ∷ 0b10000011 ∷ []) one) 19 7 0 0
    ∷ unsound (put 3 (4 ∷ 0b1010011 ∷ []) one) 19 4 0 0
    -- on 16 pages: past the eighth, and more than eight directories deep
    ∷ unsound (set far 2304 1) 17 0 0 1
    ∷ unsound (set far 81 16) 17 0 0 0
    ∷ unsound (put 3 (15 ∷ 0b1 ∷ 0b0 ∷ []) far) 20 9 0 0
    ∷ unsound (put 3 (13 ∷ 0b1 ∷ 0b10010 ∷ []) far) 19 12 0 0
    ∷ unsound (set far 3 13) 3 0 0 0
    ∷ unsound (put 2304 (stored 0x81 (0x7F ∷ replicate 15 0) 10 0x00 0x01 day1) nested) 16 9 0 0
    ∷ []

-- Two faults in one image: the first in the order of paper 02 §2 is told.
pub order : List Case
order =
    -- of an entry: its name, then a directory's size, then its pages, then a directory's contents
    unsound (set (set one 65 0x7F) 81 8) 16 0 0 0
    ∷ unsound (set (set two 97 0x41) 113 8) 16 0 1 0
    ∷ unsound (set (set box 83 0x02) 81 8) 16 0 0 0
    ∷ unsound (put 3 (3 ∷ 0b111011 ∷ []) (set desk 513 0x7F)) 20 2 0 0
    -- entries in order, each with all of its pages
    ∷ unsound (set (set two 256 5) 97 0x7F) 17 0 0 1
    ∷ unsound (set (set two 97 0x7F) 512 5) 16 0 1 0
    -- depth first: what a directory holds, then the entry after it
    ∷ unsound (put 128 (stored 0x80 (0x7F ∷ replicate 15 0) 6 0x00 0x00 day1) (set desk 545 0x7F)) 16 2 1 0
    -- of a chain: one page after the other, and behind the last its link
    ∷ unsound (put 3 (7 ∷ 0b1 ∷ []) (put 82 (0x00 ∷ 0x01 ∷ []) (set one 256 8))) 20 1 0 0
    ∷ unsound (put 3 (7 ∷ 0b1 ∷ []) (set one 256 5)) 20 1 0 0
    -- the walk before lost pages, and before the count
    ∷ unsound (put 3 (5 ∷ 0b100011 ∷ []) (set one 256 5)) 17 0 0 1
    ∷ unsound (put 3 (6 ∷ 0b101 ∷ []) one) 20 1 0 0
    ∷ unsound (set (set one 65 0x7F) 3 9) 16 0 0 0
    -- lost pages before bit 0, and before the count
    ∷ unsound (put 3 (5 ∷ 0b110 ∷ []) one) 19 2 0 0
    ∷ unsound (put 3 (5 ∷ 0b100010 ∷ []) one) 19 5 0 0
    ∷ unsound (put 3 (9 ∷ 0b100011 ∷ []) one) 19 5 0 0
    ∷ []

-- Other flags, reserved bytes, bitmap bytes past the first N/8, stored dates and empty entries may hold anything, and are kept.
loose : Bytes
loose = put 5 (replicate 59 0xFF) (put 64 (0xBE ∷ []) (put 84 (replicate 12 0xFF) (put 96 (replicate 160 0x7F) one)))

pub kept : List Case
kept =
    clear loose 6 (1 ∷ [])
    ∷ shown loose (
    find (text "/A") gives found (is_file false) 255 (replicate 8 0xFF)
    ∷ list (text "/") 0 gives entry (is_file false) (text "A" ++ replicate 15 0) 255 (replicate 8 0xFF)
    ∷ list (text "/") 1 gives granted empty
    ∷ write (text "/A") 255 (0xA0 ∷ []) gives done
    ∷ make_directory (text "/B") day1 gives done
    ∷ [])
    whole (put 3 (4 ∷ 0b1111 ∷ []) (put 82 (0x00 ∷ 0x01 ∷ []) (put 96 (stored 0x81 (text "B" ++ replicate 15 0) 3 0x00 0x01 day1)
    (set (put 512 (0 ∷ 0xA0 ∷ replicate 510 0) loose) 256 2))))
    ∷ shown loose (remove_file (text "/A") gives done ∷ []) whole (put 3 (7 ∷ 0b1 ∷ []) (set loose 64 0))
    -- the flags' other bits on a directory
    ∷ shown (set box 64 0xFF) (verdict gives sized 8 6 ∷ find (text "/A") gives found is_directory 256 day1 ∷ make_file (text "/A/x") day1 gives done ∷ [])
    (part 64 1) (0xFF ∷ [])
    -- what an empty file's page holds behind the 0
    ∷ shown note (write (text "/A") 0 (0xA0 ∷ []) gives done ∷ []) whole (put 82 (0x01 ∷ 0x00 ∷ []) (set note 257 0xA0))
    ∷ []

-- the pages owned, and the entries that own each of pages 0 to 7, by position
pub owning : List Case
owning =
    shown desk [] owned_pages (1 ∷ 5 ∷ 2 ∷ 3 ∷ 4 ∷ [])
    ∷ shown desk [] (λ b. map (owners b) (up_to 8)) ([] ∷ (64 ∷ []) ∷ (96 ∷ []) ∷ (512 ∷ []) ∷ (544 ∷ []) ∷ (64 ∷ []) ∷ [] ∷ [] ∷ [])
    ∷ shown (put 3 (6 ∷ 0b11 ∷ []) (set two 113 1)) [] (λ b. map (owners b) (up_to 3)) ([] ∷ (64 ∷ 96 ∷ []) ∷ [] ∷ [])
    -- a page marked twice, or cleared twice; clean or not
    ∷ shown one [] (λ b. On.mark version1 1 b) one
    ∷ shown one [] (λ b. On.unmark version1 5 b) one
    ∷ shown one [] (λ b. map is_clean (judge b ∷ judge (set b 3 9) ∷ [])) (true ∷ false ∷ [])
    ∷ []

pub sounds_hold : Hold sounds
unfolding computing computed stated sounds fresh note one two three box desk shelf far nested
sounds_hold = hold sounds refl

pub facts_hold : Hold facts
unfolding computing computed stated facts fresh note one two three box desk shelf far nested
facts_hold = hold facts refl

pub order_hold : Hold order
unfolding computing computed stated order one two box desk
order_hold = hold order refl

pub kept_hold : Hold kept
unfolding computing computed stated kept loose one box note
kept_hold = hold kept refl

pub owning_hold : Hold owning
unfolding computing computed stated owning one two desk
owning_hold = hold owning refl
