-- What a make answers, entry by entry and page by page until there is no more of them, and which names and dates it takes: each row is computed from
-- the definitions, so it holds by `refl`.
use mathlib.Core.Path.{refl}
use mathlib.Core.Bool.{false}
use mathlib.Core.List.{List, [], ◌∷◌, ◌++◌}
use lib.ListN.{replicate}
use Rattle.volume.specs.Bytes.{put}
use Rattle.model.specs.Call.{format, verdict, find, list, make_file, make_directory, write, remove_file, remove_directory, is_file, is_directory}
use Rattle.model.specs.Text.{text}
use Rattle.model.proofs.Run.{computing, Case, ◌gives◌, reads, refusal, refusal_at, done, sized, answered, shown, Hold, computed, stated, hold}
use Rattle.model.proofs.Desk.{day1, day2, day3, content, found, entry, whole, fresh, desk, full}

-- ---- make

pub makes : List Case
makes =
    -- refused; of two lines that hold the higher one is given; nothing changes
    shown desk (
    make_file (text "A") [] gives refusal 4
    ∷ make_directory (text "A") [] gives refusal 4
    ∷ make_file (text "/x/y") [] gives refusal 11
    ∷ make_directory (text "/x/y") [] gives refusal 11
    ∷ make_file (text "/0042/y") [] gives refusal 11
    ∷ make_directory (text "/0042/y") [] gives refusal 11
    ∷ make_file (text "/") [] gives refusal 11
    ∷ make_directory (text "/") [] gives refusal 11
    ∷ make_file (text "/A") [] gives refusal 11
    ∷ make_directory (text "/A") [] gives refusal 11
    ∷ make_file (text "/x/y") day1 gives refusal_at 5 1
    ∷ make_directory (text "/A/x/y") day1 gives refusal_at 5 3
    ∷ make_file (text "/A/x/y/z") day1 gives refusal_at 5 3
    ∷ make_file (text "/A/7/y") day1 gives refusal_at 6 3
    ∷ make_directory (text "/0042/y") day1 gives refusal_at 6 1
    ∷ make_file (text "/0042/0042") day1 gives refusal_at 6 1
    ∷ make_file (text "/") day1 gives refusal 8
    ∷ make_directory (text "/") day1 gives refusal 8
    ∷ make_file (text "/0042") day1 gives refusal 8
    ∷ make_directory (text "/0042") day1 gives refusal 8
    ∷ make_file (text "/A") day1 gives refusal 8
    ∷ make_directory (text "/A/B") day1 gives refusal 8
    ∷ make_file (text "/A/7") day1 gives refusal 8
    ∷ [])
    whole desk
    -- no entry of the root is left, and then no page: 8 before 9, and 9 before 10
    ∷ shown fresh (
    make_file (text "/0042") day1 gives done
    ∷ make_directory (text "/A") day2 gives done
    ∷ make_file (text "/C") day1 gives done
    ∷ make_file (text "/D") day2 gives done
    ∷ make_file (text "/E") day3 gives done
    ∷ make_directory (text "/F") day1 gives done
    ∷ verdict gives sized 8 1
    ∷ make_file (text "/G") day1 gives refusal 9
    ∷ make_directory (text "/G") day1 gives refusal 9
    ∷ make_directory (text "/A/B") day1 gives done
    ∷ write (text "/C") 0 (replicate 255 1) gives done
    ∷ [])
    whole full
    ∷ shown full (
    verdict gives sized 8 0
    ∷ make_file (text "/G") [] gives refusal 11
    ∷ make_file (text "/A/C") [] gives refusal 11
    ∷ make_directory (text "/A/C") [] gives refusal 11
    ∷ make_directory (text "/G/x") day1 gives refusal_at 5 1
    ∷ make_directory (text "/C/x") day1 gives refusal_at 6 1
    ∷ make_file (text "/D") day1 gives refusal 8
    ∷ make_directory (text "/D") day1 gives refusal 8
    ∷ make_file (text "/G") day1 gives refusal 9
    ∷ make_directory (text "/G") day1 gives refusal 9
    ∷ make_file (text "/A/B") day1 gives refusal 8
    ∷ make_directory (text "/A/B") day1 gives refusal 8
    -- an empty file wants a page, as a directory does (paper 02 §1)
    ∷ make_file (text "/A/C") day1 gives refusal 10
    ∷ make_directory (text "/A/C") day1 gives refusal 10
    ∷ write (text "/D") 0 (replicate 256 1) gives refusal 10
    -- what wants no page is not refused
    ∷ find (text "/D") gives found (is_file false) 0 day2
    ∷ list (text "/") 4 gives entry (is_file false) (text "E" ++ replicate 15 0) 0 day3
    ∷ reads (text "/C") 254 (9 ∷ 9 ∷ []) 1 (1 ∷ 9 ∷ [])
    ∷ write (text "/C") 254 (1 ∷ []) gives done
    ∷ [])
    whole full
    -- nor is a write of 255 bytes to an empty file, which has a page for them
    ∷ shown full (write (text "/D") 0 (content 255) gives done ∷ verdict gives sized 8 0 ∷ [])
    whole (put 178 (0xFF ∷ 0x00 ∷ []) (put 1025 (content 255) full))
    ∷ answered full (
    remove_file (text "/D") gives done ∷ verdict gives sized 8 1 ∷ remove_file (text "/C") gives done ∷ verdict gives sized 8 2 ∷ [])
    -- the page that an empty file gave back is all that the next one wants
    ∷ answered full (
    remove_file (text "/D") gives done
    ∷ make_file (text "/A/C") day1 gives done
    ∷ verdict gives sized 8 0
    ∷ make_file (text "/G") day1 gives refusal 10
    ∷ make_directory (text "/G") day1 gives refusal 10
    ∷ [])
    -- /A has 8 entries; with a page for each and its own, 9 of 15 are taken
    ∷ answered (replicate 4096 0xE5) (
    format gives done
    ∷ make_directory (text "/A") day2 gives done
    ∷ make_file (text "/A/7") day3 gives done
    ∷ make_directory (text "/A/B") day1 gives done
    ∷ make_file (text "/A/C") day1 gives done
    ∷ make_file (text "/A/D") day1 gives done
    ∷ make_file (text "/A/E") day1 gives done
    ∷ make_file (text "/A/F") day1 gives done
    ∷ make_file (text "/A/G") day1 gives done
    ∷ make_file (text "/A/H") day2 gives done
    ∷ make_file (text "/A/I") day1 gives refusal 9
    ∷ list (text "/A") 7 gives entry (is_file false) (text "H" ++ replicate 15 0) 0 day2
    ∷ verdict gives sized 16 6
    ∷ [])
    -- the lowest empty entry is filled, the one that a removal left
    ∷ answered desk (
    make_file (text "/C") day1 gives done
    ∷ remove_file (text "/0042") gives done
    ∷ make_directory (text "/D") day3 gives done
    ∷ make_file (text "/E") day2 gives done
    ∷ list (text "/") 0 gives entry is_directory (text "D" ++ replicate 15 0) 256 day3
    ∷ list (text "/") 1 gives entry is_directory (text "A" ++ replicate 15 0) 256 day2
    ∷ list (text "/") 2 gives entry (is_file false) (text "C" ++ replicate 15 0) 0 day1
    ∷ list (text "/") 3 gives entry (is_file false) (text "E" ++ replicate 15 0) 0 day2
    ∷ [])
    -- names: each byte counts, and so do case and leading zeros; "." and ".." are ordinary
    ∷ answered fresh (
    make_file (text "/0042") day1 gives done
    ∷ make_directory (text "/A") day2 gives done
    ∷ make_file (text "/42") day2 gives done
    ∷ make_file (text "/00042") day3 gives done
    ∷ find (text "/0042") gives found (is_file false) 0 day1
    ∷ find (text "/42") gives found (is_file false) 0 day2
    ∷ find (text "/00042") gives found (is_file false) 0 day3
    ∷ make_directory (text "/.") day2 gives done
    ∷ make_file (text "/./..") day3 gives done
    ∷ find (text "/./..") gives found (is_file false) 0 day3
    ∷ find (text "/..") gives refusal_at 5 1
    ∷ make_file (text "/a") day3 gives done
    ∷ find (text "/A") gives found is_directory 256 day2
    ∷ find (text "/a") gives found (is_file false) 0 day3
    ∷ [])
    ∷ answered desk (
    remove_file (text "/A/7") gives done
    ∷ remove_directory (text "/A/B") gives done
    ∷ make_file (text "/0123456789ABCDEF") day2 gives done
    ∷ make_file (text "/0123456789ABCDE") day3 gives done
    ∷ find (text "/0123456789ABCDEF") gives found (is_file false) 0 day2
    ∷ find (text "/0123456789ABCDE") gives found (is_file false) 0 day3
    ∷ list (text "/") 2 gives entry (is_file false) (text "0123456789ABCDEF") 0 day2
    ∷ list (text "/") 3 gives entry (is_file false) (text "0123456789ABCDE" ++ 0 ∷ []) 0 day3
    ∷ make_file (0x2F ∷ 0x20 ∷ []) day1 gives done
    ∷ make_file (0x2F ∷ 0x7E ∷ []) day1 gives done
    ∷ list (text "/") 4 gives entry (is_file false) (0x20 ∷ replicate 15 0) 0 day1
    ∷ list (text "/") 5 gives entry (is_file false) (0x7E ∷ replicate 15 0) 0 day1
    ∷ [])
    -- names of which one begins as the other does, whichever came first
    ∷ answered fresh (
    make_directory (text "/AB") day1 gives done
    ∷ make_file (text "/A") day2 gives done
    ∷ make_file (text "/ABC") day3 gives done
    ∷ write (text "/A") 0 (1 ∷ []) gives done
    ∷ find (text "/AB") gives found is_directory 256 day1
    ∷ find (text "/A") gives found (is_file false) 1 day2
    ∷ find (text "/ABC") gives found (is_file false) 0 day3
    ∷ remove_file (text "/A") gives done
    ∷ find (text "/A") gives refusal_at 5 1
    ∷ make_directory (text "/ABCD") day1 gives done
    ∷ make_directory (text "/A/x") day1 gives refusal_at 5 1
    ∷ make_directory (text "/ABC/x") day1 gives refusal_at 6 1
    ∷ make_directory (text "/ABCD/x") day1 gives done
    ∷ [])
    ∷ []

pub makes_hold : Hold makes
unfolding computing computed stated makes fresh desk full
makes_hold = hold makes refl

-- ---- dates

pub dates : List Case
dates =
    -- the ends of each range, and 99 where any two digits do
    answered fresh (
    make_file (text "/A") (0x99 ∷ 0x99 ∷ 0x01 ∷ 0x01 ∷ 0x99 ∷ 0x00 ∷ 0x00 ∷ 0x00 ∷ []) gives done
    ∷ make_directory (text "/B") (0x00 ∷ 0x00 ∷ 0x12 ∷ 0x31 ∷ 0x00 ∷ 0x23 ∷ 0x59 ∷ 0x59 ∷ []) gives done
    ∷ make_file (text "/C") (0x20 ∷ 0x26 ∷ 0x09 ∷ 0x10 ∷ 0x07 ∷ 0x19 ∷ 0x09 ∷ 0x10 ∷ []) gives done
    ∷ make_file (text "/D") (0x20 ∷ 0x26 ∷ 0x10 ∷ 0x29 ∷ 0x07 ∷ 0x20 ∷ 0x10 ∷ 0x09 ∷ []) gives done
    -- leap days, on any weekday (document 02 §3)
    ∷ make_file (text "/E") (0x20 ∷ 0x00 ∷ 0x02 ∷ 0x29 ∷ 0x00 ∷ 0x14 ∷ 0x30 ∷ 0x00 ∷ []) gives done
    ∷ make_directory (text "/F") (0x00 ∷ 0x00 ∷ 0x02 ∷ 0x29 ∷ 0x99 ∷ 0x14 ∷ 0x30 ∷ 0x00 ∷ []) gives done
    ∷ find (text "/A") gives found (is_file false) 0 (0x99 ∷ 0x99 ∷ 0x01 ∷ 0x01 ∷ 0x99 ∷ 0x00 ∷ 0x00 ∷ 0x00 ∷ [])
    ∷ [])
    -- one past each end
    ∷ shown fresh (
    make_file (text "/A") (0x20 ∷ 0x26 ∷ 0x00 ∷ 0x15 ∷ 0x07 ∷ 0x14 ∷ 0x30 ∷ 0x00 ∷ []) gives refusal 11
    ∷ make_file (text "/A") (0x20 ∷ 0x26 ∷ 0x13 ∷ 0x15 ∷ 0x07 ∷ 0x14 ∷ 0x30 ∷ 0x00 ∷ []) gives refusal 11
    ∷ make_file (text "/A") (0x20 ∷ 0x26 ∷ 0x11 ∷ 0x00 ∷ 0x07 ∷ 0x14 ∷ 0x30 ∷ 0x00 ∷ []) gives refusal 11
    ∷ make_file (text "/A") (0x20 ∷ 0x26 ∷ 0x12 ∷ 0x32 ∷ 0x07 ∷ 0x14 ∷ 0x30 ∷ 0x00 ∷ []) gives refusal 11
    ∷ make_file (text "/A") (0x20 ∷ 0x26 ∷ 0x11 ∷ 0x15 ∷ 0x07 ∷ 0x24 ∷ 0x30 ∷ 0x00 ∷ []) gives refusal 11
    ∷ make_file (text "/A") (0x20 ∷ 0x26 ∷ 0x11 ∷ 0x15 ∷ 0x07 ∷ 0x14 ∷ 0x60 ∷ 0x00 ∷ []) gives refusal 11
    ∷ make_directory (text "/A") (0x20 ∷ 0x26 ∷ 0x11 ∷ 0x15 ∷ 0x07 ∷ 0x14 ∷ 0x30 ∷ 0x60 ∷ []) gives refusal 11
    -- days that the month doesn't have; the table of the calendar has the others
    ∷ make_file (text "/A") (0x20 ∷ 0x26 ∷ 0x02 ∷ 0x31 ∷ 0x07 ∷ 0x14 ∷ 0x30 ∷ 0x00 ∷ []) gives refusal 11
    ∷ make_directory (text "/A") (0x20 ∷ 0x26 ∷ 0x04 ∷ 0x31 ∷ 0x07 ∷ 0x14 ∷ 0x30 ∷ 0x00 ∷ []) gives refusal 11
    ∷ make_file (text "/A") (0x20 ∷ 0x26 ∷ 0x02 ∷ 0x29 ∷ 0x07 ∷ 0x14 ∷ 0x30 ∷ 0x00 ∷ []) gives refusal 11
    ∷ make_directory (text "/A") (0x19 ∷ 0x00 ∷ 0x02 ∷ 0x29 ∷ 0x07 ∷ 0x14 ∷ 0x30 ∷ 0x00 ∷ []) gives refusal 11
    -- a half byte above 9, in each byte
    ∷ make_file (text "/A") (0x2A ∷ 0x26 ∷ 0x11 ∷ 0x15 ∷ 0x07 ∷ 0x14 ∷ 0x30 ∷ 0x00 ∷ []) gives refusal 11
    ∷ make_file (text "/A") (0xA0 ∷ 0x26 ∷ 0x11 ∷ 0x15 ∷ 0x07 ∷ 0x14 ∷ 0x30 ∷ 0x00 ∷ []) gives refusal 11
    ∷ make_file (text "/A") (0x20 ∷ 0xA6 ∷ 0x11 ∷ 0x15 ∷ 0x07 ∷ 0x14 ∷ 0x30 ∷ 0x00 ∷ []) gives refusal 11
    ∷ make_file (text "/A") (0x20 ∷ 0x26 ∷ 0x0A ∷ 0x15 ∷ 0x07 ∷ 0x14 ∷ 0x30 ∷ 0x00 ∷ []) gives refusal 11
    ∷ make_file (text "/A") (0x20 ∷ 0x26 ∷ 0x11 ∷ 0x1A ∷ 0x07 ∷ 0x14 ∷ 0x30 ∷ 0x00 ∷ []) gives refusal 11
    ∷ make_file (text "/A") (0x20 ∷ 0x26 ∷ 0x11 ∷ 0x15 ∷ 0x0A ∷ 0x14 ∷ 0x30 ∷ 0x00 ∷ []) gives refusal 11
    ∷ make_file (text "/A") (0x20 ∷ 0x26 ∷ 0x11 ∷ 0x15 ∷ 0x07 ∷ 0x0A ∷ 0x30 ∷ 0x00 ∷ []) gives refusal 11
    ∷ make_file (text "/A") (0x20 ∷ 0x26 ∷ 0x11 ∷ 0x15 ∷ 0x07 ∷ 0x14 ∷ 0x3A ∷ 0x00 ∷ []) gives refusal 11
    ∷ make_directory (text "/A") (0x20 ∷ 0x26 ∷ 0x11 ∷ 0x15 ∷ 0x07 ∷ 0x14 ∷ 0x30 ∷ 0x0F ∷ []) gives refusal 11
    -- seven bytes, and nine
    ∷ make_file (text "/A") (0x20 ∷ 0x26 ∷ 0x11 ∷ 0x15 ∷ 0x07 ∷ 0x14 ∷ 0x30 ∷ []) gives refusal 11
    ∷ make_directory (text "/A") (day1 ++ 0x00 ∷ []) gives refusal 11
    ∷ [])
    whole fresh
    ∷ []

pub dates_hold : Hold dates
unfolding computing computed stated dates fresh
dates_hold = hold dates refl
