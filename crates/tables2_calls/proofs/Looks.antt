-- What the looks tell, with pages of each size: "a drawer's size, in find too, is the page size". And the row of each directory ends with its pages.
use mathlib.Core.Path.{refl}
use mathlib.Core.Bool.{true, false}
use Prim.Native.Nat.{ℕ}
use mathlib.Core.List.{List, [], ◌∷◌, ◌++◌}
use lib.ListN.{replicate}
use Rattle.volume.specs.Bytes.{Bytes}
use Rattle.model.specs.Call.{Found, Kind, format_as, verdict, find, list, make_directory, is_file, is_directory, empty, holds, Answer, granted}
use Rattle.model.specs.Text.{text}
use Rattle.model2.proofs.Run2.{computing2, Case, ◌gives◌, done, sized, answered, leaves, refusal, refusal_at, Hold, computed, stated, hold}
use Rattle.model2.proofs.Desk2.{day1, day2, called, slot, desk2, desk512, desk1024}

abbrev found : Kind → (size : ℕ) → (date : Bytes) → Answer Found
found kind size date = granted (record { kind = kind; size = size; date = date })

pub looks : List Case
looks =
    -- pages of 256: 7 and 8 entries of the root, 8 and 8 of /A
    answered desk2 (
    verdict gives sized 24 8
    ∷ find (text "/A") gives found is_directory 256 day2
    ∷ find (text "/A/C") gives found is_directory 256 day1
    ∷ find (text "/B") gives found is_directory 256 day1
    ∷ find (text "/7") gives found (is_file false) 1 day1
    ∷ find (text "/L") gives found (is_file true) 0 day1
    ∷ find (text "/q") gives refusal_at 5 1
    ∷ find (text "/7/x") gives refusal_at 6 1
    ∷ list (text "/") 2 gives granted empty
    ∷ list (text "/") 6 gives granted (holds (is_file false) (called "sixteen letters!") 256 day1)
    ∷ list (text "/") 7 gives granted (holds (is_file false) (called "7") 1 day1)
    ∷ list (text "/") 14 gives granted (holds is_directory (called "B") 256 day1)
    ∷ list (text "/") 15 gives refusal 12
    ∷ list (text "/A") 8 gives granted (holds is_directory (called "C") 256 day1)
    ∷ list (text "/A") 16 gives refusal 12
    ∷ list (text "/B") 8 gives refusal 12
    ∷ list (text "/7") 0 gives refusal_at 6 1
    ∷ [])
    -- of 512: 15 and 16 of the root, 16 of /D
    ∷ answered desk512 (
    verdict gives sized 8 2
    ∷ find (text "/D") gives found is_directory 512 day1
    ∷ find (text "/D/f") gives found (is_file false) 513 day2
    ∷ list (text "/") 14 gives granted (holds is_directory (called "D") 512 day1)
    ∷ list (text "/") 30 gives granted empty
    ∷ list (text "/") 31 gives refusal 12
    ∷ list (text "/D") 15 gives granted (holds (is_file false) (called "f") 513 day2)
    ∷ list (text "/D") 16 gives refusal 12
    ∷ [])
    -- of 1,024: 31 of the root, 32 of /D
    ∷ answered desk1024 (
    verdict gives sized 8 3
    ∷ find (text "/D") gives found is_directory 1024 day1
    ∷ list (text "/") 30 gives granted (holds is_directory (called "D") 1024 day1)
    ∷ list (text "/") 31 gives refusal 12
    ∷ list (text "/D") 31 gives granted (holds (is_file false) (called "f") 1025 day2)
    ∷ list (text "/D") 32 gives refusal 12
    ∷ [])
    ∷ []

pub looks_hold : Hold looks
unfolding computing2 computed stated looks desk2 desk512 desk1024
looks_hold = hold looks refl

-- ---- format, and a directory made on the fresh image: its 32 bytes have the page size

abbrev fresh : (head : Bytes) (zeros rest : ℕ) → Bytes
fresh head zeros rest = head ++ (replicate zeros 0 ++ replicate rest 0xE5)

pub formats : List Case
formats =
    leaves (replicate 4096 0xE5) (
    format_as 2 gives refusal 26
    ∷ format_as 3 gives refusal 26
    ∷ format_as 1 gives done
    ∷ verdict gives sized 8 6
    ∷ list (text "/") 14 gives granted empty
    ∷ list (text "/") 15 gives refusal 12
    ∷ make_directory (text "/D") day1 gives done
    ∷ find (text "/D") gives found is_directory 512 day1
    ∷ list (text "/D") 15 gives granted empty
    ∷ list (text "/D") 16 gives refusal 12
    ∷ [])
    (fresh ((0x5A ∷ 2 ∷ 1 ∷ 0 ∷ 5 ∷ 0 ∷ 1 ∷ 0b111 ∷ replicate 24 0) ++ slot 0x81 (called "D") 2 0 0x00 0x02 0 0 day1) 1472 2560)
    ∷ leaves (replicate 8192 0xE5) (
    format_as 2 gives done
    ∷ verdict gives sized 8 6
    ∷ make_directory (text "/D") day1 gives done
    ∷ find (text "/D") gives found is_directory 1024 day1
    ∷ list (text "/D") 31 gives granted empty
    ∷ list (text "/D") 32 gives refusal 12
    ∷ [])
    (fresh ((0x5A ∷ 2 ∷ 1 ∷ 0 ∷ 5 ∷ 0 ∷ 2 ∷ 0b111 ∷ replicate 24 0) ++ slot 0x81 (called "D") 2 0 0x00 0x04 0 0 day1) 3008 5120)
    -- a format asks nothing of the old bytes, and a refused one changes nothing
    ∷ leaves desk2 (format_as 1 gives refusal 26 ∷ format_as 2 gives refusal 26 ∷ format_as 255 gives refusal 26 ∷ verdict gives sized 24 8 ∷ []) desk2
    ∷ leaves (replicate 2047 0xE5) (format_as 0 gives refusal 1 ∷ format_as 9 gives refusal 1 ∷ verdict gives refusal 1 ∷ []) (replicate 2047 0xE5)
    ∷ leaves (replicate 2048 0xE5) (verdict gives refusal 2 ∷ format_as 1 gives refusal 26 ∷ format_as 0 gives done ∷ verdict gives sized 8 6 ∷ [])
    (fresh (0x5A ∷ 2 ∷ 1 ∷ 0 ∷ 6 ∷ 0 ∷ 0 ∷ 0b11 ∷ []) 504 1536)
    ∷ []

pub formats_hold : Hold formats
unfolding computing2 computed stated formats desk2
formats_hold = hold formats refl
