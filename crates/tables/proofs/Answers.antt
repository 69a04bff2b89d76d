-- What calls answer: numbers and places of refusals and which goes first, what find, list and read tell. Each row is computed from the definitions, so it
-- holds by `refl`.
use mathlib.Core.Path.{refl}
use mathlib.Core.Bool.{true, false}
use mathlib.Core.List.{List, [], ◌∷◌, ◌++◌}
use lib.ListN.{replicate, set, drop}
use Rattle.volume.specs.Bytes.{part, put}
use Rattle.volume.specs.Lists.{keep, up_to}
use Rattle.model.specs.Name.{legal_byte}
use Rattle.model.specs.Refusal.{table_order, own_numbers}
use Rattle.model.specs.Call.{format, verdict, find, list, read, make_file, make_directory, write, remove_file, remove_directory, set_lock, store, is_file, is_directory, empty, holds, Refusal, refused, granted}
use Rattle.model.specs.Image.{tree_of}
use Rattle.model.specs.Meaning.{told as tells, numbers}
use Rattle.model.specs.Store.{is_none, store_count}
use Rattle.model.specs.Text.{text}
use Rattle.model.specs.MeaningOf
use Rattle.model.specs.RefusalOf
use Rattle.model.proofs.Run.{computing, Step, Case, ◌gives◌, reads, numbered, refusal, refusal_at, done, sized, answered, shown, Hold, computed, stated, hold}
use Rattle.tables.proofs.Table.{blank}
use Rattle.model.proofs.Desk.{full, day1, day2, day3, content, found, entry, whole, header, fresh, one, desk, shelf, far, long}

-- ---- the table of numbers

-- from the top down; paper 02 §2 put the faults where 3 stood, §9 took 15 away, §10 put 25 after 7 and before 12
pub ordered : List Case
ordered =
    shown [] [] (λ b. table_order) (1 ∷ 2 ∷ 16 ∷ 17 ∷ 18 ∷ 20 ∷ 19 ∷ 3 ∷ 4 ∷ 11 ∷ 14 ∷ 5 ∷ 6 ∷ 8 ∷ 7 ∷ 25 ∷ 12 ∷ 9 ∷ 10 ∷ 13 ∷ [])
    -- the numbers that each call can give
    ∷ shown [] [] (λ b. numbers format) (1 ∷ [])
    ∷ shown [] [] (λ b. numbers verdict) (1 ∷ 2 ∷ 16 ∷ 17 ∷ 18 ∷ 20 ∷ 19 ∷ 3 ∷ [])
    ∷ shown [] [] (λ b. own_numbers (find [])) (4 ∷ 5 ∷ 6 ∷ [])
    ∷ shown [] [] (λ b. own_numbers (list [] 0)) (4 ∷ 5 ∷ 6 ∷ 12 ∷ [])
    ∷ shown [] [] (λ b. own_numbers (read [] 0 [])) (4 ∷ 5 ∷ 6 ∷ 7 ∷ 12 ∷ [])
    ∷ shown [] [] (λ b. own_numbers (make_file [] [])) (4 ∷ 11 ∷ 5 ∷ 6 ∷ 8 ∷ 9 ∷ 10 ∷ [])
    ∷ shown [] [] (λ b. own_numbers (make_directory [] [])) (4 ∷ 11 ∷ 5 ∷ 6 ∷ 8 ∷ 9 ∷ 10 ∷ [])
    ∷ shown [] [] (λ b. own_numbers (write [] 0 [])) (4 ∷ 5 ∷ 6 ∷ 7 ∷ 25 ∷ 12 ∷ 10 ∷ [])
    ∷ shown [] [] (λ b. own_numbers (remove_file [])) (4 ∷ 14 ∷ 5 ∷ 6 ∷ 7 ∷ 25 ∷ [])
    ∷ shown [] [] (λ b. own_numbers (remove_directory [])) (4 ∷ 14 ∷ 5 ∷ 6 ∷ 13 ∷ [])
    ∷ shown [] [] (λ b. own_numbers (set_lock true [])) (4 ∷ 5 ∷ 6 ∷ 7 ∷ [])
    ∷ shown [] [] (λ b. own_numbers (store [] [] [] 0 [])) (4 ∷ 11 ∷ 5 ∷ 6 ∷ 8 ∷ 9 ∷ 10 ∷ 12 ∷ [])
    ∷ shown [] [] (λ b. numbers (store [] [] [] 0 [])) (29 ∷ 1 ∷ 2 ∷ 16 ∷ 17 ∷ 18 ∷ 20 ∷ 19 ∷ 3 ∷ 4 ∷ 11 ∷ 5 ∷ 6 ∷ 8 ∷ 9 ∷ 10 ∷ 12 ∷ [])
    ∷ shown [] [] (λ b. numbers (write [] 0 [])) (1 ∷ 2 ∷ 16 ∷ 17 ∷ 18 ∷ 20 ∷ 19 ∷ 3 ∷ 4 ∷ 5 ∷ 6 ∷ 7 ∷ 25 ∷ 12 ∷ 10 ∷ [])
    ∷ []

pub ordered_hold : Hold ordered
unfolding computing computed stated ordered RefusalOf.table_order RefusalOf.own_numbers MeaningOf.numbers
ordered_hold = hold ordered refl

-- ---- lengths, and what every call judges first

pub formats : List Case
formats =
    -- page 0 is written, and no other byte
    shown blank (format gives done ∷ []) whole (0x5A ∷ 1 ∷ 1 ∷ 7 ∷ 1 ∷ replicate 251 0 ++ replicate 1792 0xE5)
    ∷ shown (replicate 4096 0xE5) (format gives done ∷ verdict gives sized 16 15 ∷ [])
    whole (0x5A ∷ 1 ∷ 2 ∷ 15 ∷ 1 ∷ replicate 251 0 ++ replicate 3840 0xE5)
    ∷ shown (replicate 65536 0xE5) (format gives done ∷ verdict gives sized 256 255 ∷ []) (part 0 6) (0x5A ∷ 1 ∷ 32 ∷ 255 ∷ 1 ∷ 0 ∷ [])
    -- a used image is emptied; its pages' bytes stay
    ∷ shown desk (format gives done ∷ verdict gives sized 8 7 ∷ find (text "/0042") gives refusal_at 5 1 ∷ [])
    whole (header 7 1 ++ replicate 192 0 ++ drop 256 desk)
    -- lengths that are not allowed
    ∷ shown [] (format gives refusal 1 ∷ verdict gives refusal 1 ∷ []) whole []
    ∷ shown (replicate 2047 0xE5) (format gives refusal 1 ∷ verdict gives refusal 1 ∷ []) whole (replicate 2047 0xE5)
    ∷ shown (replicate 2049 0xE5) (format gives refusal 1 ∷ verdict gives refusal 1 ∷ []) whole (replicate 2049 0xE5)
    ∷ answered (replicate 2304 0xE5) (format gives refusal 1 ∷ verdict gives refusal 1 ∷ [])
    ∷ answered (replicate 2560 0xE5) (format gives refusal 1 ∷ verdict gives refusal 1 ∷ [])
    ∷ answered (replicate 3072 0xE5) (format gives refusal 1 ∷ verdict gives refusal 1 ∷ [])
    ∷ answered (replicate 67584 0xE5) (format gives refusal 1 ∷ verdict gives refusal 1 ∷ [])
    ∷ []

pub formats_hold : Hold formats
unfolding computing computed stated formats desk
formats_hold = hold formats refl

-- every call but format is refused so, though its path, position and date are bad
every_call : Refusal → List Step
every_call r =
    verdict gives refused r
    ∷ find (text "x") gives refused r
    ∷ list (text "x") 9 gives refused r
    ∷ read (text "x") 9 (1 ∷ 2 ∷ []) gives refused r
    ∷ make_file (text "x") [] gives refused r
    ∷ make_directory (text "x") [] gives refused r
    ∷ write (text "x") 9 (1 ∷ []) gives refused r
    ∷ remove_file (text "x") gives refused r
    ∷ remove_directory (text "x") gives refused r
    ∷ set_lock true (text "x") gives refused r
    ∷ set_lock false (text "x") gives refused r
    ∷ store (text "x") [] [] 9 (replicate 256 7) gives refused r
    ∷ []

pub judged_first : List Case
unfolding every_call
judged_first =
    -- a byte too many behind a sound image, and bytes that are wrong in all ways
    shown (fresh ++ 0 ∷ []) (every_call (numbered 1 0 0 0)) whole (fresh ++ 0 ∷ [])
    ∷ answered (replicate 2049 0xE5) (every_call (numbered 1 0 0 0))
    -- byte 0, 1 or 2 wrong, also where the image is not sound
    ∷ shown (set fresh 0 0x5B) (every_call (numbered 2 0 0 0)) whole (set fresh 0 0x5B)
    ∷ answered (set fresh 1 2) (every_call (numbered 2 0 0 0))
    ∷ answered (set fresh 2 2) (every_call (numbered 2 0 0 0))
    ∷ answered blank (every_call (numbered 2 0 0 0))
    -- a byte lower than it should be is as wrong as a higher one
    ∷ answered (set fresh 0 0x59) (verdict gives refusal 2 ∷ [])
    ∷ answered (set fresh 1 0) (verdict gives refusal 2 ∷ [])
    ∷ answered (set fresh 2 0) (verdict gives refusal 2 ∷ [])
    ∷ answered (set far 2 1) (verdict gives refusal 2 ∷ [])
    ∷ answered (set far 2 0) (verdict gives refusal 2 ∷ [])
    -- not sound: the first fault, by number and place (paper 02 §2)
    ∷ shown (set desk 545 0x7F) (every_call (numbered 16 2 1 0)) whole (set desk 545 0x7F)
    ∷ shown (set desk 1280 6) (every_call (numbered 17 0 0 2)) whole (set desk 1280 6)
    ∷ shown (set desk 561 3) (every_call (numbered 18 3 0 0)) whole (set desk 561 3)
    ∷ answered (put 3 (3 ∷ 0b110111 ∷ []) desk) (every_call (numbered 20 3 0 0))
    ∷ answered (put 3 (1 ∷ 0b1111111 ∷ []) desk) (every_call (numbered 19 6 0 0))
    ∷ shown (set fresh 3 6) (every_call (numbered 3 0 0 0)) whole (set fresh 3 6)
    -- sound: only then the path is looked at
    ∷ shown fresh (verdict gives sized 8 7 ∷ drop 1 (every_call (numbered 4 0 0 0))) whole fresh
    ∷ []

pub judged_first_hold : Hold judged_first
unfolding computing computed stated judged_first every_call fresh desk far
judged_first_hold = hold judged_first refl

-- What a store asks besides (paper 02 §11): 29 stands above all, 12 below 10, and a refused one leaves the buffer as it is. Granted ones are computed in
-- crates/store_laws.
pub stores : List Case
stores =
    answered fresh (
    store (text "/x") day1 [] 2 (replicate 256 7) gives refusal 12
    ∷ store (text "/x") day1 (content 1785) 8 (replicate 256 7) gives refusal 12
    ∷ store (text "/x") day1 (content 1786) 99 (replicate 256 7) gives refusal 10
    ∷ store (text "x") [] [] 99 (replicate 255 7) gives refusal 29
    ∷ [])
    ∷ answered full (store (text "/A/x") day1 [] 9 (replicate 256 7) gives refusal 10 ∷ store (text "/x") day1 [] 9 (replicate 256 7) gives refusal 9 ∷ [])
    ∷ answered [] (store [] [] [] 0 [] gives refusal 29 ∷ store [] [] [] 0 (replicate 257 7) gives refusal 29 ∷ [])
    ∷ []

pub stores_hold : Hold stores
unfolding computing computed stated stores fresh full is_none store_count
stores_hold = hold stores refl

-- ---- paths and walks, on the desk

-- what is a path, and where a walk stops: the place is the byte of the path at which the name begins
pub paths : List Case
paths =
    answered desk (
    -- bytes that are no path
    find [] gives refusal 4
    ∷ find (text "x") gives refusal 4
    ∷ find (text "xA") gives refusal 4
    ∷ find (text "A/7") gives refusal 4
    ∷ find (text "//") gives refusal 4
    ∷ find (text "//A") gives refusal 4
    ∷ find (text "/A/") gives refusal 4
    ∷ find (text "/A//7") gives refusal 4
    ∷ find (text "/0123456789ABCDEFG") gives refusal 4
    ∷ find (text "/A/0123456789ABCDEFG") gives refusal 4
    -- the bytes of a name: 0x20 to 0x7E, and each counts
    ∷ find (0x2F ∷ 0x1F ∷ []) gives refusal 4
    ∷ find (0x2F ∷ 0x20 ∷ []) gives refusal_at 5 1
    ∷ find (0x2F ∷ 0x2E ∷ []) gives refusal_at 5 1
    ∷ find (0x2F ∷ 0x30 ∷ []) gives refusal_at 5 1
    ∷ find (0x2F ∷ 0x7E ∷ []) gives refusal_at 5 1
    ∷ find (0x2F ∷ 0x7F ∷ []) gives refusal 4
    ∷ find (0x2F ∷ 0x80 ∷ []) gives refusal 4
    ∷ find (0x2F ∷ 0x41 ∷ 0x00 ∷ []) gives refusal 4
    ∷ find (0x2F ∷ 0x41 ∷ 0x1F ∷ 0x41 ∷ []) gives refusal 4
    -- names with all the legal bytes in turn
    ∷ find (text "/ !\"#$%&'()*+,-./0123456789:;<=>?/@ABCDEFGHIJKLMNO/PQRSTUVWXYZ[\\]^_/`abcdefghijklmno/pqrstuvwxyz{|}~") gives refusal_at 5 1
    -- a name that isn't there: the last, or one on the way
    ∷ find (text "/42") gives refusal_at 5 1
    ∷ find (text "/00042") gives refusal_at 5 1
    ∷ find (text "/004") gives refusal_at 5 1
    ∷ find (text "/a") gives refusal_at 5 1
    ∷ find (text "/A/0042") gives refusal_at 5 3
    ∷ find (text "/A/x/y") gives refusal_at 5 3
    ∷ find (text "/x/7/y") gives refusal_at 5 1
    ∷ find (text "/A/B/7") gives refusal_at 5 5
    ∷ find (text "/0123456789ABCDEF") gives refusal_at 5 1
    -- a file where a directory is needed; the leftmost fault counts
    ∷ find (text "/0042/x") gives refusal_at 6 1
    ∷ find (text "/0042/x/y") gives refusal_at 6 1
    ∷ find (text "/A/7/x") gives refusal_at 6 3
    ∷ find (text "/A/x/7/y") gives refusal_at 5 3
    ∷ [])
    -- of all 256 bytes, those that a name may have
    ∷ shown [] [] (λ b. keep legal_byte (up_to 256))
    (text " !\"#$%&'()*+,-.0123456789:;<=>?@ABCDEFGHIJKLMNOPQRSTUVWXYZ[\\]^_`abcdefghijklmnopqrstuvwxyz{|}~")
    ∷ []

pub paths_hold : Hold paths
unfolding computing computed stated paths desk
paths_hold = hold paths refl

-- ---- what find and list tell

pub told : List Case
told =
    shown blank (
    format gives done
    ∷ make_file (text "/0042") day1 gives done
    ∷ make_directory (text "/A") day2 gives done
    ∷ make_file (text "/A/7") day3 gives done
    ∷ make_directory (text "/A/B") day1 gives done
    ∷ write (text "/0042") 0 (content 256) gives done
    ∷ [])
    whole desk
    ∷ shown desk (
    verdict gives sized 8 2
    ∷ find (text "/") gives found is_directory 256 (replicate 8 0)
    ∷ find (text "/0042") gives found (is_file false) 256 day1
    ∷ find (text "/A") gives found is_directory 256 day2
    ∷ find (text "/A/7") gives found (is_file false) 0 day3
    ∷ find (text "/A/B") gives found is_directory 256 day1
    -- the root has 6 entries
    ∷ list (text "/") 0 gives entry (is_file false) (text "0042" ++ replicate 12 0) 256 day1
    ∷ list (text "/") 1 gives entry is_directory (text "A" ++ replicate 15 0) 256 day2
    ∷ list (text "/") 2 gives granted empty
    ∷ list (text "/") 5 gives granted empty
    ∷ list (text "/") 6 gives refusal 12
    -- any other directory has 8
    ∷ list (text "/A") 0 gives entry (is_file false) (text "7" ++ replicate 15 0) 0 day3
    ∷ list (text "/A") 1 gives entry is_directory (text "B" ++ replicate 15 0) 256 day1
    ∷ list (text "/A") 7 gives granted empty
    ∷ list (text "/A") 8 gives refusal 12
    ∷ list (text "/A/B") 0 gives granted empty
    -- what list refuses before it looks at the number
    ∷ list (text "A") 9 gives refusal 4
    ∷ list (text "/x") 9 gives refusal_at 5 1
    ∷ list (text "/A/x") 9 gives refusal_at 5 3
    ∷ list (text "/0042") 0 gives refusal_at 6 1
    ∷ list (text "/A/7") 9 gives refusal_at 6 3
    ∷ list (text "/0042/x") 9 gives refusal_at 6 1
    ∷ [])
    whole desk
    -- the size's two bytes are one number, up to the longest file's
    ∷ shown (long 0x00 0x80) [] (λ b. tells (find (text "/A")) (tree_of b)) (record { kind = is_file false; size = 32768; date = day1 })
    ∷ shown (long 0x01 0xFE) [] (λ b. tells (find (text "/A")) (tree_of b)) (record { kind = is_file false; size = 65025; date = day1 })
    ∷ shown (long 0x01 0xFE) [] (λ b. tells (list (text "/") 0) (tree_of b)) (holds (is_file false) (text "A" ++ replicate 15 0) 65025 day1)
    ∷ []

pub told_hold : Hold told
unfolding computing computed stated told desk long one
told_hold = hold told refl

-- ---- read

pub readings : List Case
readings =
    shown blank (
    format gives done
    ∷ make_directory (text "/D") day2 gives done
    ∷ make_file (text "/R") day1 gives done
    ∷ write (text "/R") 0 (content 600) gives done
    ∷ make_file (text "/E") day3 gives done
    ∷ [])
    whole shelf
    ∷ shown shelf (
    reads (text "/R") 0 (0xEE ∷ 0xEE ∷ 0xEE ∷ []) 3 (0 ∷ 1 ∷ 2 ∷ [])
    -- across pages: the first holds bytes 0 to 254, the second 255 to 509
    ∷ reads (text "/R") 252 (replicate 6 0xEE) 6 (1 ∷ 2 ∷ 3 ∷ 4 ∷ 5 ∷ 6 ∷ [])
    ∷ reads (text "/R") 507 (replicate 6 0xEE) 6 (5 ∷ 6 ∷ 7 ∷ 8 ∷ 9 ∷ 10 ∷ [])
    -- at the size, before it and past it; what is not copied over stays
    ∷ reads (text "/R") 599 (1 ∷ 2 ∷ 3 ∷ []) 1 (97 ∷ 2 ∷ 3 ∷ [])
    ∷ reads (text "/R") 600 (1 ∷ 2 ∷ 3 ∷ []) 0 (1 ∷ 2 ∷ 3 ∷ [])
    ∷ read (text "/R") 601 (1 ∷ 2 ∷ 3 ∷ []) gives refusal 12
    ∷ reads (text "/R") 0 (replicate 700 0xEE) 600 (content 600 ++ replicate 100 0xEE)
    ∷ reads (text "/E") 0 (1 ∷ 2 ∷ []) 0 (1 ∷ 2 ∷ [])
    ∷ read (text "/E") 1 (1 ∷ 2 ∷ []) gives refusal 12
    -- no room: refused all the same
    ∷ reads (text "/R") 0 [] 0 []
    ∷ reads (text "/R") 600 [] 0 []
    ∷ read (text "/R") 601 [] gives refusal 12
    ∷ read (text "/D") 0 [] gives refusal 7
    -- refused; 7 before 12
    ∷ read (text "R") 601 (1 ∷ []) gives refusal 4
    ∷ read (text "/x") 601 (1 ∷ []) gives refusal_at 5 1
    ∷ read (text "/D/x/y") 0 (1 ∷ []) gives refusal_at 5 3
    ∷ read (text "/R/x") 601 (1 ∷ []) gives refusal_at 6 1
    ∷ read (text "/D") 1 (1 ∷ []) gives refusal 7
    ∷ read (text "/") 0 (1 ∷ []) gives refusal 7
    ∷ read (text "/") 257 (1 ∷ []) gives refusal 7
    ∷ [])
    whole shelf
    ∷ []

pub readings_hold : Hold readings
unfolding computing computed stated readings shelf fresh
readings_hold = hold readings refl
