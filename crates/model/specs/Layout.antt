-- Document 01, "Numbers" and "The header page" (000, "Header" and "Bitmap").
use Rattle.std.specs.Prelude.{ℕ, ◌+◌, ◌*◌, ◌/◌, ◌%◌, max, Bool, [], ◌∷◌, length, eqb, leb}
use Rattle.volume.specs.Bytes.{Bytes, byte_at}
use Rattle.volume.specs.Lists.{conditions}
use Rattle.volume.specs.Field.{byte}
use Rattle.volume.specs.Geometry as On
use Rattle.volume.specs.Geometry.{Geometry}

-- ---- Numbers

abbrev pub page_size : ℕ
page_size = 256

-- bytes of content on a page of a file; the byte before them is the link
abbrev pub room : ℕ
room = 255

-- Version 1: page 0 is the header, a page's first byte is its link, byte 3 is the number of free pages and the bitmap begins at byte 4.
abbrev pub version1 : Geometry
version1 = record { aside = 1; size = page_size; room = room; link = λ p. byte (page_size * p); count = byte 3; map = 4 }

-- N
abbrev pub page_count : Bytes → ℕ
page_count b = length b / page_size

-- k, the number of pages of a file of s bytes ("A sound image", and paper 02 §1: an empty file has a page too)
unfoldable pub pages_for : ℕ → ℕ
pages_for s = max 1 ((s + 254) / 255)

-- N is a multiple of 8 from 8 to 256
unfoldable pub valid_length : ℕ → Bool
valid_length n = conditions (eqb (n % 2048) 0 ∷ leb 2048 n ∷ leb n 65536 ∷ [])

-- ---- The header page

unfoldable pub valid_header : Bytes → Bool
valid_header b = conditions (eqb (byte_at b 0) 0x5A ∷ eqb (byte_at b 1) 1 ∷ eqb (byte_at b 2) (page_count b / 8) ∷ [])

-- byte 3, the number of free pages
abbrev pub free_count : Bytes → ℕ
free_count b = On.free_count version1 b

-- the bit of page p, 1 if it is allocated
abbrev pub page_bit : Bytes → ℕ → ℕ
page_bit b p = On.page_bit version1 b p

-- the zero bits among the first n; bitmap bytes past the first N/8 are not looked at
abbrev pub zero_bits : Bytes → ℕ → ℕ
zero_bits b n = On.zero_bits version1 b n

-- the link of page p
abbrev pub link : Bytes → ℕ → ℕ
link b p = On.next version1 b p
