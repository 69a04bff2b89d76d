-- What the rows of this crate and of `tables2` have in common: arguments, literal bytes, and images of version 2 written byte by byte from paper 02 §12,
-- not by the definitions. All are closed, so that a row with them computes.
use Prim.Native.Nat.{ℕ, ◌+◌, ◌-◌, ◌%◌}
use Prim.Native.String.{String}
use mathlib.Core.List.{List, [], ◌∷◌, ◌++◌, map}
use lib.ListN.{length, replicate}
use Rattle.volume.specs.Bytes.{Bytes}
use Rattle.volume.specs.Lists.{count_from}
use Rattle.model.specs.Text.{text}

abbrev pub day1 : Bytes
day1 = 0x20 ∷ 0x26 ∷ 0x11 ∷ 0x15 ∷ 0x07 ∷ 0x14 ∷ 0x30 ∷ 0x00 ∷ []

abbrev pub day2 : Bytes
day2 = 0x19 ∷ 0x99 ∷ 0x12 ∷ 0x31 ∷ 0x05 ∷ 0x23 ∷ 0x59 ∷ 0x58 ∷ []

-- a name with its padding
abbrev pub called : String → Bytes
called s = text s ++ replicate (16 - length (text s)) 0

-- n bytes of content from place i on, of which neighbours differ, also those 256, 512 and 1,024 apart
abbrev pub stretch : (i n : ℕ) → Bytes
stretch i n = map (λ j. j % 251) (count_from i n)

-- the 32 bytes of an entry; start page and size as they stand, low byte first
abbrev pub slot : (flags : ℕ) (name : Bytes) (start₀ start₁ size₀ size₁ size₂ size₃ : ℕ) (date : Bytes) → Bytes
slot flags name s₀ s₁ z₀ z₁ z₂ z₃ date = flags ∷ (name ++ (s₀ ∷ s₁ ∷ z₀ ∷ z₁ ∷ z₂ ∷ z₃ ∷ (date ++ (0 ∷ []))))

-- bytes at rising positions, and a filler between them and up to the end
abbrev pub laid : (filler at till : ℕ) → List (ℕ × Bytes) → Bytes
laid filler at till [] = replicate (till - at) filler
laid filler at till (v ∷ vs) = replicate (v.0 - at) filler ++ (v.1 ++ laid filler (v.0 + length v.1) till vs)

-- an entry with anything in it but bit 7 of the flags
abbrev pub junk : Bytes
junk = 0x7F ∷ replicate 31 0xFF

-- ---- images

-- 6,144 bytes in pages of 256: N is 24, the table is page 1, and the root has 7 entries from byte 32 on and 8 on page 9, its second page. /A has pages 4
-- and 11, /0042 has 2, 5 and 3. Pages 16 to 23 are free. The links of page 1, of free pages and past N, and vacant entries hold anything.
unfoldable pub desk2 : Bytes
desk2 = laid 0 0 6144 (
    (0, 0x5A ∷ 2 ∷ 3 ∷ 0 ∷ 8 ∷ 0 ∷ 0 ∷ 0xFF ∷ 0xFF ∷ 0 ∷ [])
    -- the root, on page 0
    ∷ (32, slot 0x80 (called "0042") 2 0 0x58 0x02 0 0 day1)
    ∷ (64, slot 0x81 (called "A") 4 0 0x00 0x01 0 0 day2)
    ∷ (96, junk)
    ∷ (128, slot 0xC0 (called "L") 6 0 0 0 0 0 day1)
    ∷ (160, slot 0xC1 (called "K") 13 0 0x00 0x01 0 0 day2)
    ∷ (224, slot 0x80 (called "sixteen letters!") 14 0 0x00 0x01 0 0 day1)
    -- the links: of page 0 first, then of the table itself
    ∷ (256, 9 ∷ 0x77 ∷ 5 ∷ 0 ∷ 11 ∷ 3 ∷ 0 ∷ 0 ∷ 0 ∷ 0 ∷ 0 ∷ 0 ∷ 0 ∷ 0 ∷ 0 ∷ 0 ∷ replicate 240 0xE5)
    -- /0042, on pages 2, 5 and 3; between them /A on page 4
    ∷ (512, stretch 0 256)
    ∷ (768, stretch 512 88)
    ∷ (1024, slot 0x80 (called "x") 10 0 0 0 0 0 day2)
    ∷ (1248, slot 0x80 (called "y") 12 0 200 0 0 0 day2)
    ∷ (1280, stretch 256 256)
    -- /7, and the root on page 9
    ∷ (1792, 0x37 ∷ [])
    ∷ (2304, slot 0xBE (called "7") 7 0 1 0 0 0 day1)
    ∷ (2528, slot 0x81 (called "B") 8 0 0x00 0x01 0 0 day1)
    -- /A, on page 11
    ∷ (2816, slot 0x81 (called "C") 15 0 0x00 0x01 0 0 day1)
    ∷ (2880, junk)
    -- /A/y and the file with sixteen letters
    ∷ (3072, stretch 7 256)
    ∷ (3584, stretch 1000 256)
    ∷ [])

-- 4,096 bytes in pages of 512: N is 8, the root has 15 entries, and 16 on page 6, its second page; /D, on page 2, has 16. /D/f has pages 5 and 4, of which the
-- second has one byte.
unfoldable pub desk512 : Bytes
desk512 = laid 0 0 4096 (
    (0, 0x5A ∷ 2 ∷ 1 ∷ 0 ∷ 2 ∷ 0 ∷ 1 ∷ 0b01110111 ∷ [])
    ∷ (480, slot 0x81 (called "D") 2 0 0x00 0x02 0 0 day1)
    ∷ (512, 6 ∷ 0xFF ∷ 0 ∷ 0xFF ∷ 0 ∷ 4 ∷ 0 ∷ 0xFF ∷ replicate 504 0xFF)
    ∷ (1504, slot 0x80 (called "f") 5 0 0x01 0x02 0 0 day2)
    ∷ (2048, 0x42 ∷ 0x43 ∷ [])
    ∷ (2560, stretch 0 512)
    ∷ [])

-- 8,192 bytes in pages of 1,024: N is 8, the root has 31 entries; /D, the last of them, has 32, and /D/f, the last of these, 1,025 bytes on pages 3 and 7.
unfoldable pub desk1024 : Bytes
desk1024 = laid 0 0 8192 (
    (0, 0x5A ∷ 2 ∷ 1 ∷ 0 ∷ 3 ∷ 0 ∷ 2 ∷ 0b10001111 ∷ [])
    ∷ (992, slot 0x81 (called "D") 2 0 0x00 0x04 0 0 day1)
    ∷ (1024, 0 ∷ 0 ∷ 0 ∷ 7 ∷ 0 ∷ 0 ∷ 0 ∷ 0 ∷ [])
    ∷ (3040, slot 0x80 (called "f") 3 0 0x01 0x04 0 0 day2)
    ∷ (3072, stretch 0 1024)
    ∷ (7168, 0x42 ∷ 0x43 ∷ [])
    ∷ [])

-- 69,632 bytes in pages of 512: N is 136, and two-byte links stand in pages 1 and 2, which are set aside. The root has pages 0 and 130, of which the
-- second has one entry, /f, on pages 135 and 3.
unfoldable pub desk16 : Bytes
desk16 = laid 0xE5 0 69632 (
    (0, 0x5A ∷ 2 ∷ 17 ∷ 0 ∷ 130 ∷ 0 ∷ 1 ∷ 0b1111 ∷ replicate 15 0)
    ∷ (23, 0b10000100 ∷ replicate 488 0)
    ∷ (512, 130 ∷ 0 ∷ [])
    ∷ (518, 0 ∷ 0 ∷ [])
    ∷ (772, 0 ∷ 0 ∷ [])
    ∷ (782, 3 ∷ 0 ∷ [])
    ∷ (1536, 0x42 ∷ 0x43 ∷ 0x44 ∷ 0x45 ∷ [])
    ∷ (66560, slot 0x80 (called "f") 135 0 0x03 0x02 0 0 day2 ++ replicate 480 0)
    ∷ (69120, stretch 0 512)
    ∷ [])

-- 139,264 bytes in pages of 512: N is 272, so that page numbers and the count want two bytes, and the table goes on in page 2. The root has pages 0 and
-- 258; /D has 6 and 4, /D/e the page 261, /D/E the page 5; /f has 262, 3 and 263.
unfoldable pub desk272 : Bytes
desk272 = laid 0xE5 0 139264 (
    (0, 0x5A ∷ 2 ∷ 34 ∷ 0 ∷ 5 ∷ 1 ∷ 1 ∷ 0b1111111 ∷ replicate 31 0)
    ∷ (39, 0b11100100 ∷ replicate 440 0)
    ∷ (480, slot 0x81 (called "D") 6 0 0x00 0x02 0 0 day1)
    ∷ (512, 2 ∷ 1 ∷ [])
    ∷ (518, 7 ∷ 1 ∷ 0 ∷ 0 ∷ 0 ∷ 0 ∷ 4 ∷ 0 ∷ [])
    ∷ (1028, 0 ∷ 0 ∷ [])
    ∷ (1034, 0 ∷ 0 ∷ 3 ∷ 0 ∷ 0 ∷ 0 ∷ [])
    ∷ (1536, stretch 512 512)
    ∷ (2048, slot 0x81 (called "E") 5 0 0x00 0x02 0 0 day2 ++ replicate 992 0)
    ∷ (3072, replicate 480 0 ++ slot 0x80 (called "e") 5 1 0 0 0 0 day1)
    ∷ (132096, slot 0x80 (called "f") 6 1 0x14 0x05 0 0 day2 ++ replicate 480 0)
    ∷ (134144, stretch 0 512)
    ∷ (134656, stretch 1024 276)
    ∷ [])

-- 6,144 bytes in pages of 256, with no empty entry in the root nor in /D, and two free pages, 6 and 22, of which the links and all bytes are stale. /D is on
-- page 2 and holds eight empty files; /f has pages 10, 18, 19, 20, 21 and 23.
unfoldable pub full2 : Bytes
full2 = laid 0xEE 0 6144 (
    (0, 0x5A ∷ 2 ∷ 3 ∷ 0 ∷ 2 ∷ 0 ∷ 0 ∷ 0xBF ∷ 0xFF ∷ 0xBF ∷ [])
    ∷ (32, slot 0x81 (called "D") 2 0 0x00 0x01 0 0 day1)
    ∷ (64, slot 0x80 (called "a") 3 0 0 0 0 0 day1)
    ∷ (96, slot 0x80 (called "b") 4 0 0 0 0 0 day1)
    ∷ (128, slot 0x80 (called "c") 5 0 0 0 0 0 day1)
    ∷ (160, slot 0x80 (called "d") 7 0 0 0 0 0 day1)
    ∷ (192, slot 0x80 (called "e") 9 0 0 0 0 0 day1)
    ∷ (224, slot 0x80 (called "f") 10 0 0xDC 0x05 0 0 day1)
    -- the links of pages 0 to 23, then what stands past them
    ∷ (256, 0 ∷ 0x77 ∷ 0 ∷ 0 ∷ 0 ∷ 0 ∷ 0xE5 ∷ 0 ∷ 0 ∷ 0 ∷ 18 ∷ 0 ∷ 0 ∷ 0 ∷ 0 ∷ 0 ∷ 0 ∷ 0 ∷ 19 ∷ 20 ∷ 21 ∷ 23 ∷ 0xE5 ∷ 0 ∷ replicate 232 0xE5)
    -- /D
    ∷ (512, slot 0x80 (called "0") 8 0 0 0 0 0 day2)
    ∷ (544, slot 0x80 (called "1") 11 0 0 0 0 0 day2)
    ∷ (576, slot 0x80 (called "2") 12 0 0 0 0 0 day2)
    ∷ (608, slot 0x80 (called "3") 13 0 0 0 0 0 day2)
    ∷ (640, slot 0x80 (called "4") 14 0 0 0 0 0 day2)
    ∷ (672, slot 0x80 (called "5") 15 0 0 0 0 0 day2)
    ∷ (704, slot 0x80 (called "6") 16 0 0 0 0 0 day2)
    ∷ (736, slot 0x80 (called "7") 17 0 0 0 0 0 day2)
    ∷ [])
