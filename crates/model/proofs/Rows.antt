-- Rows that rule out wrong definitions: for each must-fail edit of this crate there is a row here, or one of Growth, Touched or Calendar, that the edited
-- definitions no longer give. They are few and on small images, since each edit computes all of them; the tables of every theme, in which most of them
-- stand again among their like, are in crates/tables. Each row is computed from the definitions, so it holds by `refl`.
use mathlib.Core.Path.{refl}
use mathlib.Core.Bool.{true, false}
use mathlib.Core.List.{List, [], ◌∷◌, ◌++◌, map}
use lib.ListN.{replicate, set}
use Rattle.volume.specs.Bytes.{part, put}
use Rattle.volume.specs.Lists.{keep, up_to}
use Rattle.model.specs.Layout.{pages_for}
use Rattle.model.specs.Name.{legal_byte}
use Rattle.model.specs.Sound.{sound}
use Rattle.model.specs.Tree.{width}
use Rattle.model.specs.Call.{format, verdict, find, list, read, make_file, make_directory, write, remove_file, remove_directory, set_lock, store, is_file, is_directory}
use Rattle.model.specs.Meaning.{fresh_tree}
use Rattle.model.specs.Store.{is_none, store_count}
use Rattle.model.specs.Text.{text}
use Rattle.model.specs.Listing.{digits, decimal}
use Rattle.model.proofs.Run.{computing, Case, ◌gives◌, reads, refusal, refusal_at, done, sized, answered, shown, unsound, Hold, computed, stated, hold}
use Rattle.model.proofs.Desk.{day1, day2, found, entry, whole, stored, fresh, note, one, two, three, box, desk, full}

-- ---- bytes and numbers, on no image

pub numbers : List Case
numbers =
    -- a file of no bytes has a page, and a page holds 255
    shown [] [] (λ b. map pages_for (0 ∷ 255 ∷ 256 ∷ [])) (1 ∷ 1 ∷ 2 ∷ [])
    -- a fresh root has six entries
    ∷ shown [] [] (λ b. width (fresh_tree 8).root) 6
    -- the bytes that a name may have
    ∷ shown [] [] (λ b. keep legal_byte (up_to 256))
    (text " !\"#$%&'()*+,-.0123456789:;<=>?@ABCDEFGHIJKLMNOPQRSTUVWXYZ[\\]^_`abcdefghijklmnopqrstuvwxyz{|}~")
    -- a number of five digits
    ∷ shown [] [] (λ b. decimal 65025) (text "65025")
    ∷ []

pub numbers_hold : Hold numbers
unfolding computing computed stated numbers digits
numbers_hold = hold numbers refl

-- ---- sound images, and the first fault of the others

pub faults : List Case
faults =
    -- sound as a whole: names of which one begins as the other does, whichever comes first; and where one fact fails alone, byte 3, two equal names
    -- behind entry 0, a page owned twice, and a page that nobody owns
    shown (set (set two 66 0x42) 97 0x41) [] sound true
    ∷ shown (set (set two 97 0x41) 98 0x42) [] sound true
    ∷ shown (set one 3 5) [] sound false
    ∷ shown (three 0x42) [] sound false
    ∷ shown (put 3 (6 ∷ 0b11 ∷ []) (set two 113 1)) [] sound false
    ∷ shown (put 3 (6 ∷ 0b11 ∷ []) fresh) [] sound false
    -- an entry, by its number from 0; a file's chain, by the pages passed; a directory's page that is not there
    ∷ unsound (set one 65 0x7F) 16 0 0 0
    ∷ unsound (set one 256 1) 17 0 0 1
    ∷ unsound (put 82 (0x00 ∷ 0x01 ∷ []) one) 17 0 0 1
    ∷ unsound (put 96 (stored 0x81 (text "B" ++ replicate 15 0) 8 0x00 0x01 day1) one) 17 0 1 0
    -- a page owned twice, and one that is marked free
    ∷ unsound (put 3 (6 ∷ 0b11 ∷ []) (set two 113 1)) 18 1 0 0
    ∷ unsound (put 3 (7 ∷ 0b1 ∷ []) one) 20 1 0 0
    -- of two faults: the earlier entry's, the walk's before a lost page, a lost page before the count
    ∷ unsound (set (set two 256 5) 97 0x7F) 17 0 0 1
    ∷ unsound (put 3 (5 ∷ 0b100011 ∷ []) (set one 256 5)) 17 0 0 1
    ∷ unsound (put 3 (9 ∷ 0b100011 ∷ []) one) 19 5 0 0
    -- bit 0 of the bitmap, with the count that then is right
    ∷ unsound (put 3 (7 ∷ 0b10 ∷ []) one) 3 0 0 0
    -- an empty file
    ∷ answered note (verdict gives sized 8 6 ∷ [])
    ∷ []

pub faults_hold : Hold faults
unfolding computing computed stated faults fresh note one two three
faults_hold = hold faults refl

-- ---- what calls tell

pub answers : List Case
answers =
    answered fresh (
    -- the root: it has 6 entries, is no file, cannot be removed, and is not locked
    list (text "/") 6 gives refusal 12
    ∷ read (text "/") 0 [] gives refusal 7
    ∷ set_lock true (text "/") gives refusal 7
    ∷ remove_file (text "/") gives refusal 14
    ∷ remove_directory (text "/") gives refusal 14
    ∷ make_file (text "/x") [] gives refusal 11
    ∷ [])
    -- a file: a path begins with a slash; where a walk stops; names to their last byte
    ∷ answered (set one 66 0x42) (
    find (text "xAB") gives refusal 4
    ∷ find (text "/A") gives refusal_at 5 1
    ∷ find (text "/ABC") gives refusal_at 5 1
    ∷ find (text "/AB/x") gives refusal_at 6 1
    ∷ list (text "/") 0 gives entry (is_file false) (text "AB" ++ replicate 14 0) 255 day1
    ∷ make_file (text "/AB") day1 gives refusal 8
    ∷ remove_directory (text "/AB") gives refusal_at 6 1
    -- a read past the size, and one over it, which leaves the rest of the buffer
    ∷ read (text "/AB") 256 [] gives refusal 12
    ∷ reads (text "/AB") 254 (8 ∷ 9 ∷ []) 1 (3 ∷ 9 ∷ [])
    ∷ [])
    -- a locked one: past the end or not
    ∷ answered (set one 64 0xC0) (remove_file (text "/A") gives refusal 25 ∷ write (text "/A") 256 (1 ∷ []) gives refusal 25 ∷ [])
    -- a directory
    ∷ answered box (
    find (text "/A") gives found is_directory 256 day1
    ∷ list (text "/") 0 gives entry is_directory (text "A" ++ replicate 15 0) 256 day1
    ∷ remove_file (text "/A") gives refusal 7
    ∷ [])
    -- a file as long as a directory
    ∷ answered desk (find (text "/0042") gives found (is_file false) 256 day1 ∷ [])
    -- no entry of the root is vacant and no page is free: 8 before 9, 10 before 12, and what wants no page is not refused
    ∷ answered full (
    make_file (text "/D") day1 gives refusal 8
    ∷ store (text "/A/x") day1 [] 9 (replicate 256 7) gives refusal 10
    ∷ write (text "/C") 254 (1 ∷ []) gives done
    ∷ [])
    ∷ []

pub answers_hold : Hold answers
unfolding computing computed stated answers fresh one box desk full is_none store_count
answers_hold = hold answers refl

-- ---- what calls change

pub images : List Case
images =
    -- page 0 alone
    shown (replicate 2048 0xE5) (format gives done ∷ []) (part 250 7) (0 ∷ 0 ∷ 0 ∷ 0 ∷ 0 ∷ 0 ∷ 0xE5 ∷ [])
    -- all 32 bytes of an entry
    ∷ shown fresh (make_file (text "/A") day1 gives done ∷ make_directory (text "/B") day2 gives done ∷ [])
    (part 64 64) (stored 0x80 (text "A" ++ replicate 15 0) 1 0x00 0x00 day1 ++ stored 0x81 (text "B" ++ replicate 15 0) 2 0x00 0x01 day2)
    -- the flags byte, the mark and the count, and no other byte
    ∷ shown one (remove_file (text "/A") gives done ∷ []) whole (put 3 (7 ∷ 0b1 ∷ []) (set one 64 0))
    -- bit 6 of the flags, and no other bit
    ∷ shown (set one 64 0xBE) (set_lock true (text "/A") gives done ∷ []) (part 64 1) (0xFE ∷ [])
    ∷ []

pub images_hold : Hold images
unfolding computing computed stated images fresh one
images_hold = hold images refl
