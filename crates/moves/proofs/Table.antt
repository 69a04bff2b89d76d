-- The two calls computed on real images: that pages come to where a proposal puts them, that only bits, links and start pages of occupied entries
-- follow, and which refusal comes first, is held to the paper by these rows.
use mathlib.Core.Path.{◌≡◌, refl}
use Prim.Native.Nat.{ℕ}
use mathlib.Core.List.{List, [], ◌∷◌, ◌++◌}
use lib.ListN.{replicate, set}
use Rattle.volume.specs.Bytes.{Bytes}
use Rattle.model.specs.Call.{Answer, refused, granted}
use Rattle.model.proofs.Run.{computing}
use Rattle.model.proofs.Desk.{fresh}
use Rattle.moves.specs.Tidy.{page_at, neighbours, accepted, moved_entry, owner_entry, moved_as, moved_page, bits_of, moved_bits, moved_header, moved, tidy_lines, tidy_answer, tidy_after}
use Rattle.moves.specs.Propose.{file_from, is_other, order, numbered, propose_lines, propose_answer, propose_after}

-- A directory on page 1 with a file on 2, 4, 5; a file of the root on 3, 6; page 7 is free. Other bytes than zero stand in a bitmap byte not in use, in
-- the reserved bytes, in vacant entries of the root and of the directory (each with a start page), and on page 7, which looks like an entry's.
unfoldable pub mixed : Bytes
mixed =
    (0x5A ∷ 1 ∷ 1 ∷ 1 ∷ 0x7F ∷ 0 ∷ 0 ∷ 0xAA ∷ []) ++ replicate 27 0 ++ (0x55 ∷ 0 ∷ 0 ∷ 0 ∷ 0 ∷ 1 ∷ []) ++ replicate 23 0 ++ (0x81 ∷ 0x44 ∷ [])
    ++ replicate 15 0 ++ (1 ∷ 0 ∷ 1 ∷ 0x20 ∷ 0x26 ∷ 0x11 ∷ 0x15 ∷ 7 ∷ 0x14 ∷ 0x30 ∷ 0 ∷ 0 ∷ 0 ∷ 0 ∷ 0 ∷ 0x80 ∷ []) ++ (0x32 ∷ []) ++ replicate 15 0
    ++ (3 ∷ 0x2C ∷ 1 ∷ 0x20 ∷ 0x26 ∷ 0x11 ∷ 0x15 ∷ 7 ∷ 0x14 ∷ 0x30 ∷ 0 ∷ 0 ∷ 0 ∷ 0 ∷ 0 ∷ 0x7F ∷ []) ++ replicate 16 0 ++ (3 ∷ []) ++ replicate 110 0
    ++ (0x80 ∷ 0x78 ∷ []) ++ replicate 15 0 ++ (2 ∷ 0x58 ∷ 2 ∷ 0x20 ∷ 0x26 ∷ 0x11 ∷ 0x15 ∷ 7 ∷ 0x14 ∷ 0x30 ∷ []) ++ replicate 6 0 ++ (0x71 ∷ [])
    ++ replicate 15 0 ++ (7 ∷ 0 ∷ 0 ∷ 0x20 ∷ 0x26 ∷ 0x11 ∷ 0x15 ∷ 7 ∷ 0x14 ∷ 0x30 ∷ []) ++ replicate 197 0 ++ (4 ∷ []) ++ replicate 255 0x78
    ++ (6 ∷ []) ++ replicate 255 0x79 ++ (5 ∷ []) ++ replicate 255 0x78 ++ (0 ∷ []) ++ replicate 90 0x78 ++ replicate 166 0 ++ replicate 45 0x79
    ++ replicate 210 0 ++ (0x80 ∷ 0x5A ∷ []) ++ replicate 15 0 ++ (3 ∷ 0x2C ∷ 1 ∷ []) ++ replicate 236 0

-- with its pages at the places 0 7 4 2 5 6 3 1
unfoldable pub shuffled : Bytes
shuffled =
    (0x5A ∷ 1 ∷ 1 ∷ 1 ∷ 0xFD ∷ 0 ∷ 0 ∷ 0xAA ∷ []) ++ replicate 27 0 ++ (0x55 ∷ 0 ∷ 0 ∷ 0 ∷ 0 ∷ 1 ∷ []) ++ replicate 23 0 ++ (0x81 ∷ 0x44 ∷ [])
    ++ replicate 15 0 ++ (7 ∷ 0 ∷ 1 ∷ 0x20 ∷ 0x26 ∷ 0x11 ∷ 0x15 ∷ 7 ∷ 0x14 ∷ 0x30 ∷ 0 ∷ 0 ∷ 0 ∷ 0 ∷ 0 ∷ 0x80 ∷ []) ++ (0x32 ∷ []) ++ replicate 15 0
    ++ (2 ∷ 0x2C ∷ 1 ∷ 0x20 ∷ 0x26 ∷ 0x11 ∷ 0x15 ∷ 7 ∷ 0x14 ∷ 0x30 ∷ 0 ∷ 0 ∷ 0 ∷ 0 ∷ 0 ∷ 0x7F ∷ []) ++ replicate 16 0 ++ (3 ∷ []) ++ replicate 110 0
    ++ (0x80 ∷ 0x5A ∷ []) ++ replicate 15 0 ++ (3 ∷ 0x2C ∷ 1 ∷ []) ++ replicate 236 0 ++ (3 ∷ []) ++ replicate 255 0x79 ++ (0 ∷ [])
    ++ replicate 45 0x79 ++ replicate 210 0 ++ (5 ∷ []) ++ replicate 255 0x78 ++ (6 ∷ []) ++ replicate 255 0x78 ++ (0 ∷ []) ++ replicate 90 0x78
    ++ replicate 165 0 ++ (0x80 ∷ 0x78 ∷ []) ++ replicate 15 0 ++ (4 ∷ 0x58 ∷ 2 ∷ 0x20 ∷ 0x26 ∷ 0x11 ∷ 0x15 ∷ 7 ∷ 0x14 ∷ 0x30 ∷ []) ++ replicate 6 0
    ++ (0x71 ∷ []) ++ replicate 15 0 ++ (7 ∷ 0 ∷ 0 ∷ 0x20 ∷ 0x26 ∷ 0x11 ∷ 0x15 ∷ 7 ∷ 0x14 ∷ 0x30 ∷ []) ++ replicate 197 0

-- with its pages where the helper puts them: 0 6 1 4 2 3 5 7
unfoldable pub helped : Bytes
helped =
    (0x5A ∷ 1 ∷ 1 ∷ 1 ∷ 0x7F ∷ 0 ∷ 0 ∷ 0xAA ∷ []) ++ replicate 27 0 ++ (0x55 ∷ 0 ∷ 0 ∷ 0 ∷ 0 ∷ 1 ∷ []) ++ replicate 23 0 ++ (0x81 ∷ 0x44 ∷ [])
    ++ replicate 15 0 ++ (6 ∷ 0 ∷ 1 ∷ 0x20 ∷ 0x26 ∷ 0x11 ∷ 0x15 ∷ 7 ∷ 0x14 ∷ 0x30 ∷ 0 ∷ 0 ∷ 0 ∷ 0 ∷ 0 ∷ 0x80 ∷ []) ++ (0x32 ∷ []) ++ replicate 15 0
    ++ (4 ∷ 0x2C ∷ 1 ∷ 0x20 ∷ 0x26 ∷ 0x11 ∷ 0x15 ∷ 7 ∷ 0x14 ∷ 0x30 ∷ 0 ∷ 0 ∷ 0 ∷ 0 ∷ 0 ∷ 0x7F ∷ []) ++ replicate 16 0 ++ (3 ∷ []) ++ replicate 110 0
    ++ (2 ∷ []) ++ replicate 255 0x78 ++ (3 ∷ []) ++ replicate 255 0x78 ++ (0 ∷ []) ++ replicate 90 0x78 ++ replicate 165 0 ++ (5 ∷ [])
    ++ replicate 255 0x79 ++ (0 ∷ []) ++ replicate 45 0x79 ++ replicate 210 0 ++ (0x80 ∷ 0x78 ∷ []) ++ replicate 15 0
    ++ (1 ∷ 0x58 ∷ 2 ∷ 0x20 ∷ 0x26 ∷ 0x11 ∷ 0x15 ∷ 7 ∷ 0x14 ∷ 0x30 ∷ []) ++ replicate 6 0 ++ (0x71 ∷ []) ++ replicate 15 0
    ++ (7 ∷ 0 ∷ 0 ∷ 0x20 ∷ 0x26 ∷ 0x11 ∷ 0x15 ∷ 7 ∷ 0x14 ∷ 0x30 ∷ []) ++ replicate 197 0 ++ (0x80 ∷ 0x5A ∷ []) ++ replicate 15 0
    ++ (3 ∷ 0x2C ∷ 1 ∷ []) ++ replicate 236 0

abbrev pub number : {A : Type 0} → Answer A → ℕ
number (granted x) = 0
number (refused f) = f.number

-- whatever the target holds
abbrev pub blank : Bytes
blank = replicate 2048 0x11

-- a granted tidy, and a refused one
abbrev pub tidies : Bytes → List ℕ → Bytes → Type 0
tidies b places after = (number (tidy_answer b places blank) ≡ 0) × (tidy_after b places blank ≡ after)

abbrev pub refuses : Bytes → List ℕ → Bytes → ℕ → Type 0
refuses b places target n = (number (tidy_answer b places target) ≡ n) × (tidy_after b places target ≡ target)

-- what the helper answers for a row, and what it leaves in it
abbrev pub proposes : Bytes → List ℕ → ℕ → List ℕ → Type 0
proposes b row n after = (number (propose_answer b row) ≡ n) × (propose_after b row ≡ after)

abbrev pub Rows : Type 0
Rows =
    tidies mixed (0 ∷ 7 ∷ 4 ∷ 2 ∷ 5 ∷ 6 ∷ 3 ∷ 1 ∷ []) shuffled
    × tidies mixed (0 ∷ 6 ∷ 1 ∷ 4 ∷ 2 ∷ 3 ∷ 5 ∷ 7 ∷ []) helped
    -- an image without files: any order of its pages
    × tidies fresh (0 ∷ 7 ∷ 6 ∷ 5 ∷ 4 ∷ 3 ∷ 2 ∷ 1 ∷ []) fresh
    -- its own places, which are no neighbours; two numbers of a file exchanged; falling neighbours; a gap in a file
    × refuses mixed (0 ∷ 1 ∷ 2 ∷ 3 ∷ 4 ∷ 5 ∷ 6 ∷ 7 ∷ []) blank 27
    × refuses mixed (0 ∷ 7 ∷ 5 ∷ 2 ∷ 4 ∷ 6 ∷ 3 ∷ 1 ∷ []) blank 27
    × refuses mixed (0 ∷ 7 ∷ 6 ∷ 3 ∷ 5 ∷ 4 ∷ 2 ∷ 1 ∷ []) blank 27
    × refuses mixed (0 ∷ 7 ∷ 3 ∷ 1 ∷ 4 ∷ 6 ∷ 2 ∷ 5 ∷ []) blank 27
    -- a number twice; N; 255; N + 1 numbers; N − 1; none; page 0 moved
    × refuses mixed (0 ∷ 7 ∷ 4 ∷ 2 ∷ 5 ∷ 6 ∷ 3 ∷ 7 ∷ []) blank 27
    × refuses mixed (0 ∷ 8 ∷ 4 ∷ 2 ∷ 5 ∷ 6 ∷ 3 ∷ 1 ∷ []) blank 27
    × refuses mixed (0 ∷ 255 ∷ 4 ∷ 2 ∷ 5 ∷ 6 ∷ 3 ∷ 1 ∷ []) blank 27
    × refuses mixed (0 ∷ 7 ∷ 4 ∷ 2 ∷ 5 ∷ 6 ∷ 3 ∷ 1 ∷ 8 ∷ []) blank 27
    × refuses mixed (0 ∷ 7 ∷ 4 ∷ 2 ∷ 5 ∷ 6 ∷ 3 ∷ []) blank 27
    × refuses mixed [] blank 27
    × refuses mixed (1 ∷ 7 ∷ 4 ∷ 2 ∷ 5 ∷ 6 ∷ 3 ∷ 0 ∷ []) blank 27
    -- the target's length, before a proposal that is bad too: short, long, none
    × refuses mixed [] (replicate 2047 0) 28
    × refuses mixed [] (replicate 4096 0) 28
    × refuses mixed (0 ∷ 7 ∷ 4 ∷ 2 ∷ 5 ∷ 6 ∷ 3 ∷ 1 ∷ []) [] 28
    -- the verdict's own before both: a lost page, the header, the length
    × refuses (set mixed 4 0xFF) [] [] 19
    × refuses (set mixed 0 0) [] [] 2
    × refuses [] [] [] 1
    -- the helper, whatever its row held; a row of another length; an unsound image
    × proposes mixed (replicate 8 9) 0 (0 ∷ 6 ∷ 1 ∷ 4 ∷ 2 ∷ 3 ∷ 5 ∷ 7 ∷ [])
    × proposes fresh (replicate 8 0) 0 (0 ∷ 1 ∷ 2 ∷ 3 ∷ 4 ∷ 5 ∷ 6 ∷ 7 ∷ [])
    × proposes mixed (replicate 7 9) 27 (replicate 7 9)
    × proposes mixed (replicate 9 9) 27 (replicate 9 9)
    × proposes (set mixed 4 0xFF) (replicate 8 9) 19 (replicate 8 9)

pub rows_hold : Rows
unfolding computing mixed shuffled helped fresh page_at neighbours accepted moved_entry owner_entry moved_as moved_page bits_of moved_bits moved_header moved tidy_lines tidy_answer tidy_after
    file_from is_other order numbered propose_lines propose_answer propose_after
rows_hold = (
  (refl, refl),
  (refl, refl),
  (refl, refl),
  (refl, refl),
  (refl, refl),
  (refl, refl),
  (refl, refl),
  (refl, refl),
  (refl, refl),
  (refl, refl),
  (refl, refl),
  (refl, refl),
  (refl, refl),
  (refl, refl),
  (refl, refl),
  (refl, refl),
  (refl, refl),
  (refl, refl),
  (refl, refl),
  (refl, refl),
  (refl, refl),
  (refl, refl),
  (refl, refl),
  (refl, refl),
  (refl, refl),
)
