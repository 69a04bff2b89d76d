-- The definitions computed: numbers, rows and lists as bytes. The laws hold of other ranges and another order too; these rows do not.
use mathlib.Core.Path.{◌≡◌, refl}
use mathlib.Core.Option.{none, some}
use Prim.Native.Nat.{ℕ}
use mathlib.Core.List.{List, [], ◌∷◌, ◌++◌}
use lib.ListN.{replicate}
use Rattle.volume.specs.Bytes.{Bytes}
use Rattle.volume.specs.Lists.{all}
use Rattle.model.specs.Text.{text}
use Rattle.model.specs.Call.{refusal_at}
use Rattle.link_list.specs.declared.Row.{Row}
use Rattle.link_list.specs.Coding.{groups, joined, take_number, in_range, row_bytes, and_then, kept, take_row, file_of, above, accession}
use Rattle.link_list.specs.Judging.{follows, bad, rows, row, read_row, read_from, read_list, bad_from, bad_row}

-- Everything that bytes and lists compute with: to unfold this is to unfold them all.
unfoldable pub coding : Unit {0}
unfolding all groups joined take_number in_range row_bytes and_then kept take_row file_of above accession follows row read_row read_from read_list bad_from bad_row text
coding = tt

abbrev pub link : (count value figure : ℕ) → Row
link c n f = record { count = c; value = n; figure = f }

-- a file reads as this list, and this list's file is that one
abbrev pub Both : Bytes → List Row → Type 0
Both v rs = (read_list v ≡ rows rs) × (file_of rs ≡ v) × (bad_row rs ≡ none)

-- 21 at this byte, 22 of this row
abbrev pub Broken : Bytes → ℕ → Type 0
Broken v at = read_list v ≡ bad (refusal_at 21 at)

abbrev pub NotAbove : Bytes → ℕ → Type 0
NotAbove v i = read_list v ≡ bad (refusal_at 22 i)

-- 10^16 − 1 and 10^16 in seven-bit groups
abbrev pub sixteen_nines : Bytes
sixteen_nines = 0xFF ∷ 0xFF ∷ 0x83 ∷ 0xFE ∷ 0xA6 ∷ 0xDE ∷ 0xE1 ∷ 0x11 ∷ []

abbrev pub ten_to_sixteen : Bytes
ten_to_sixteen = 0x80 ∷ 0x80 ∷ 0x84 ∷ 0xFE ∷ 0xA6 ∷ 0xDE ∷ 0xE1 ∷ 0x11 ∷ []

abbrev pub Files : Type 0
Files =
    Both [] []
    -- groups of seven bits, the lowest first; 0042 and 42 are two accessions
    × Both (2 ∷ 42 ∷ 0xAC ∷ 2 ∷ 4 ∷ 42 ∷ 7 ∷ []) (link 2 42 300 ∷ link 4 42 7 ∷ [])
    × Both (3 ∷ 0x80 ∷ 1 ∷ 0x7F ∷ []) (link 3 128 127 ∷ [])
    -- by count, then by value: 02 00 is above 01 09, and 01 06 is not above 02 05
    × Both (1 ∷ 9 ∷ 1 ∷ 2 ∷ 0 ∷ 2 ∷ []) (link 1 9 1 ∷ link 2 0 2 ∷ [])
    × NotAbove (2 ∷ 5 ∷ 1 ∷ 1 ∷ 6 ∷ 2 ∷ []) 1
    × NotAbove (2 ∷ 42 ∷ 7 ∷ 2 ∷ 42 ∷ 8 ∷ []) 1
    × NotAbove (2 ∷ 43 ∷ 7 ∷ 2 ∷ 42 ∷ 8 ∷ []) 1
    -- the greatest row; one more in the value, in the figure, in the count; no digits
    × Both (16 ∷ sixteen_nines ++ (0xFF ∷ 0xFF ∷ 0xFF ∷ 0xFF ∷ 0x0F ∷ [])) (link 16 9999999999999999 4294967295 ∷ [])
    × Broken (16 ∷ ten_to_sixteen ++ (1 ∷ [])) 0
    × Broken (16 ∷ sixteen_nines ++ (0x80 ∷ 0x80 ∷ 0x80 ∷ 0x80 ∷ 0x10 ∷ [])) 0
    × Broken (17 ∷ 1 ∷ 1 ∷ []) 0
    × Broken (0 ∷ 0 ∷ 1 ∷ []) 0
    -- eight groups, below and above 10^16; nine groups in each number
    × Both (16 ∷ replicate 7 0xFF ++ (0x10 ∷ 1 ∷ [])) (link 16 9570149208162303 1 ∷ [])
    × Broken (16 ∷ replicate 7 0xFF ++ (0x11 ∷ 1 ∷ [])) 0
    × Broken (replicate 8 0x81 ++ (1 ∷ 1 ∷ 1 ∷ [])) 0
    × Broken (1 ∷ replicate 8 0x81 ++ (1 ∷ 1 ∷ [])) 0
    × Broken (1 ∷ 1 ∷ replicate 8 0x81 ++ (1 ∷ [])) 0
    -- not the shortest form in each number
    × Broken (0x81 ∷ 0 ∷ 1 ∷ 1 ∷ []) 0
    × Broken (1 ∷ 0x81 ∷ 0 ∷ 1 ∷ []) 0
    × Broken (1 ∷ 1 ∷ 0x81 ∷ 0 ∷ []) 0
    -- cut off in each number and between them, and behind a good row
    × Broken (0x81 ∷ []) 0
    × Broken (1 ∷ []) 0
    × Broken (1 ∷ 0x81 ∷ []) 0
    × Broken (1 ∷ 1 ∷ []) 0
    × Broken (1 ∷ 1 ∷ 0x81 ∷ []) 0
    × Broken (1 ∷ 1 ∷ 1 ∷ 0 ∷ []) 3
    × Broken (2 ∷ 42 ∷ 7 ∷ 1 ∷ 10 ∷ 8 ∷ []) 3
    -- the first bad row is told: one that is not above, then a broken one; and in one row 21 stands before 22
    × NotAbove (1 ∷ 1 ∷ 1 ∷ 1 ∷ 1 ∷ 2 ∷ 0 ∷ []) 1
    × Broken (2 ∷ 42 ∷ 7 ∷ 0 ∷ 0 ∷ 8 ∷ []) 3

pub files_hold : Files
unfolding coding
files_hold = ((refl, refl, refl), (refl, refl, refl), (refl, refl, refl), (refl, refl, refl), refl, refl, refl, (refl, refl, refl), refl, refl, refl, refl, (refl, refl, refl), refl, refl, refl, refl, refl, refl, refl, refl, refl, refl, refl, refl, refl, refl, refl, refl)

-- a list that is written: 21 or 22 by the row's number; each count has its bound
abbrev pub Lists : Type 0
Lists =
    (bad_row (link 0 0 0 ∷ []) ≡ some (refusal_at 21 0))
    × (bad_row (link 1 1 1 ∷ link 1 10 0 ∷ []) ≡ some (refusal_at 21 1))
    × (bad_row (link 1 1 1 ∷ link 1 1 2 ∷ []) ≡ some (refusal_at 22 1))
    × (bad_row (link 1 18446744073709551615 0 ∷ []) ≡ some (refusal_at 21 0))
    × (bad_row (link 2 0 0 ∷ link 1 9 0 ∷ []) ≡ some (refusal_at 22 1))
    × (bad_row (link 1 9 0 ∷ link 2 0 0 ∷ []) ≡ none)
    × (bad_row (link 2 5 0 ∷ link 0 5 0 ∷ []) ≡ some (refusal_at 21 1))
    × (bad_row (link 1 9 4294967295 ∷ link 16 9999999999999999 0 ∷ []) ≡ none)
    × (bad_row (link 1 9 4294967296 ∷ []) ≡ some (refusal_at 21 0))
    × (bad_row (link 1 1 1 ∷ link 1 1 1 ∷ link 0 0 0 ∷ []) ≡ some (refusal_at 22 1))

pub lists_hold : Lists
unfolding coding
lists_hold = (refl, refl, refl, refl, refl, refl, refl, refl, refl, refl)

-- exactly so many digits
abbrev pub Digits : Type 0
Digits =
    (accession 4 42 ≡ text "0042")
    × (accession 2 42 ≡ text "42")
    × (accession 9 42 ≡ text "000000042")
    × (accession 16 0 ≡ text "0000000000000000")
    × (accession 16 9999999999999999 ≡ text "9999999999999999")
    × (accession 16 1234567890123456 ≡ text "1234567890123456")

pub digits_hold : Digits
unfolding coding
digits_hold = (refl, refl, refl, refl, refl, refl)
