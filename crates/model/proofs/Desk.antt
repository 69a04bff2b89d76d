-- What the rows of this crate and of `tables` have in common: arguments, images and literal bytes. All are closed, so that a row with them computes.
use Prim.Native.Nat.{ℕ, ◌%◌}
use mathlib.Core.List.{[], ◌∷◌, ◌++◌, map}
use lib.ListN.{replicate, set}
use Rattle.volume.specs.Bytes.{Bytes, part, put}
use Rattle.volume.specs.Lists.{up_to}
use Rattle.model.specs.Call.{Kind, Found, Listed, holds, Answer, granted}
use Rattle.model.specs.Text.{text}

-- ---- arguments

abbrev pub day1 : Bytes
day1 = 0x20 ∷ 0x26 ∷ 0x11 ∷ 0x15 ∷ 0x07 ∷ 0x14 ∷ 0x30 ∷ 0x00 ∷ []

abbrev pub day2 : Bytes
day2 = 0x19 ∷ 0x99 ∷ 0x12 ∷ 0x31 ∷ 0x05 ∷ 0x23 ∷ 0x59 ∷ 0x58 ∷ []

abbrev pub day3 : Bytes
day3 = 0x00 ∷ 0x01 ∷ 0x02 ∷ 0x03 ∷ 0x04 ∷ 0x05 ∷ 0x06 ∷ 0x07 ∷ []

-- n bytes of which neighbours differ, also those 255 apart
abbrev pub content : ℕ → Bytes
content n = map (λ i. i % 251) (up_to n)

-- ---- answers

abbrev pub found : Kind → ℕ → Bytes → Answer Found
found kind size date = granted (record { kind = kind; size = size; date = date })

-- the name is given with its padding
abbrev pub entry : Kind → Bytes → ℕ → Bytes → Answer Listed
entry kind name size date = granted (holds kind name size date)

-- ---- looks and literal bytes

abbrev pub whole : Bytes → Bytes
whole b = b

-- bytes 0 to 63 of an image of 8 pages
abbrev pub header : (count bitmap : ℕ) → Bytes
header count bitmap = 0x5A ∷ 0x01 ∷ 0x01 ∷ count ∷ bitmap ∷ replicate 59 0

-- the 32 bytes of an entry; the name is given with its padding
abbrev pub stored : (flags : ℕ) (name : Bytes) (start low high : ℕ) (date : Bytes) → Bytes
stored flags name start low high date = flags ∷ name ++ start ∷ low ∷ high ∷ date ++ replicate 4 0

-- ---- images, byte by byte; behind the pages in use stand the E5 bytes from before the format

unfoldable pub fresh : Bytes
fresh = header 7 0b1 ++ replicate 192 0 ++ replicate 1792 0xE5

-- /A of 255 bytes on page 1
unfoldable pub one : Bytes
one = header 6 0b11 ++ stored 0x80 (text "A" ++ replicate 15 0) 1 0xFF 0x00 day1 ++ replicate 160 0
    ++ 0 ∷ content 255
    ++ replicate 1536 0xE5

-- also /B of 255 bytes on page 2
unfoldable pub two : Bytes
two = header 5 0b111 ++ stored 0x80 (text "A" ++ replicate 15 0) 1 0xFF 0x00 day1 ++ stored 0x80 (text "B" ++ replicate 15 0) 2 0xFF 0x00 day2 ++ replicate 128 0
    ++ 0 ∷ content 255
    ++ 0 ∷ replicate 255 0x42
    ++ replicate 1280 0xE5

-- a directory on page 1, and an empty file on page 1, which begins with 0 (paper 02 §1); what follows the 0 does not count
unfoldable pub box : Bytes
box = header 6 0b11 ++ stored 0x81 (text "A" ++ replicate 15 0) 1 0x00 0x01 day1 ++ replicate 160 0 ++ replicate 256 0 ++ replicate 1536 0xE5

unfoldable pub note : Bytes
note = header 6 0b11 ++ stored 0x80 (text "A" ++ replicate 15 0) 1 0x00 0x00 day1 ++ replicate 160 0 ++ 0 ∷ replicate 255 0xE5 ++ replicate 1536 0xE5

-- three files, of which the third, empty, has this name
unfoldable pub three : (name : ℕ) → Bytes
three name = put 3 (4 ∷ 0b1111 ∷ []) (put 128 (stored 0x80 (name ∷ replicate 15 0) 3 0x00 0x00 day1) (set two 768 0))

-- /0042 of 256 bytes on pages 1 and 5; /A on page 2, in it /A/7, empty, on page 3, and /A/B, empty, on page 4. An empty file's page is zeroed
-- as a directory's is (paper 02 §1).
unfoldable pub desk : Bytes
desk = header 2 0b111111 ++ stored 0x80 (text "0042" ++ replicate 12 0) 1 0x00 0x01 day1 ++ stored 0x81 (text "A" ++ replicate 15 0) 2 0x00 0x01 day2 ++ replicate 128 0
    ++ 5 ∷ content 255
    ++ stored 0x80 (text "7" ++ replicate 15 0) 3 0x00 0x00 day3 ++ stored 0x81 (text "B" ++ replicate 15 0) 4 0x00 0x01 day1 ++ replicate 192 0
    ++ replicate 256 0
    ++ replicate 256 0
    ++ 0 ∷ 4 ∷ replicate 254 0
    ++ replicate 512 0xE5

-- no entry of the root is empty and no page is free: /0042, /D and /E, empty, on pages 1, 4 and 5; /C of 255 bytes on page 3; /F, empty, on page
-- 6; /A on page 2, in it /A/B, empty, on page 7
unfoldable pub full : Bytes
full = header 0 0b11111111 ++ stored 0x80 (text "0042" ++ replicate 12 0) 1 0x00 0x00 day1 ++ stored 0x81 (text "A" ++ replicate 15 0) 2 0x00 0x01 day2
    ++ stored 0x80 (text "C" ++ replicate 15 0) 3 0xFF 0x00 day1 ++ stored 0x80 (text "D" ++ replicate 15 0) 4 0x00 0x00 day2
    ++ stored 0x80 (text "E" ++ replicate 15 0) 5 0x00 0x00 day3 ++ stored 0x81 (text "F" ++ replicate 15 0) 6 0x00 0x01 day1
    ++ replicate 256 0
    ++ stored 0x81 (text "B" ++ replicate 15 0) 7 0x00 0x01 day1 ++ replicate 224 0
    ++ 0 ∷ replicate 255 1
    ++ replicate 1024 0

-- /D on page 1, empty; /R of 600 bytes on pages 2, 3 and 4; /E on page 5, empty
unfoldable pub shelf : Bytes
shelf = header 2 0b111111 ++ stored 0x81 (text "D" ++ replicate 15 0) 1 0x00 0x01 day2 ++ stored 0x80 (text "R" ++ replicate 15 0) 2 0x58 0x02 day1
    ++ stored 0x80 (text "E" ++ replicate 15 0) 5 0x00 0x00 day3 ++ replicate 96 0
    ++ replicate 256 0
    ++ 3 ∷ part 0 255 (content 600)
    ++ 4 ∷ part 255 255 (content 600)
    ++ 0 ∷ part 510 90 (content 600) ++ replicate 165 0
    ++ replicate 256 0
    ++ replicate 512 0xE5

-- 16 pages: /A of 255 bytes on page 9
unfoldable pub far : Bytes
far = 0x5A ∷ 0x01 ∷ 0x02 ∷ 14 ∷ 0b1 ∷ 0b10 ∷ replicate 58 0 ++ stored 0x80 (text "A" ++ replicate 15 0) 9 0xFF 0x00 day1 ++ replicate 160 0
    ++ replicate 2048 0xE5
    ++ 0 ∷ content 255
    ++ replicate 1536 0xE5

-- /A with a size of these two bytes, low first. Its chain returns to itself, and so page 1 stands for all of its pages: no call would take the image
-- for sound, but a sound one with such a file is dear to compute.
unfoldable pub long : (low high : ℕ) → Bytes
long low high = put 82 (low ∷ high ∷ []) (set one 256 1)
