-- Paper 02 §12, and document 001, second edition (header, FAT, smallest page sizes): where an image of version 2 keeps things. All of it hangs on two
-- numbers, the image's length and its page code.
use Rattle.std.specs.Prelude.{ℕ, ◌+◌, ◌-◌, ◌*◌, ◌/◌, ◌%◌, ◌^◌, max, Bool, true, false, not, ◌||◌, List, [], ◌∷◌, length, eqb, leb, ltb, if◌then◌else◌}
use Rattle.volume.specs.Bytes.{Bytes, byte_at}
use Rattle.volume.specs.Lists.{conditions}
use Rattle.volume.specs.Field.{Field, byte, pair, load}
use Rattle.volume.specs.Geometry.{Geometry}
use Rattle.model.specs.Call.{refusal}
use Rattle.model.specs.Refusal.{Line}

-- ---- Numbers, of an image of so many bytes with a page code

-- "page codes 0, 1 and 2 (256, 512, 1,024 bytes)": 1 << (8 + code)
abbrev pub page_size : (code : ℕ) → ℕ
page_size code = 256 * 2 ^ code

-- N
abbrev pub page_count : (code length : ℕ) → ℕ
page_count code n = n / page_size code

-- "Root slots start at 7 plus the bitmap's bytes, rounded up to 32", of which N/8 are the bitmap's
abbrev pub root_start : (pages : ℕ) → ℕ
root_start pages = (7 + pages / 8 + 31) / 32 * 32

-- "one byte each in page 1 up to 65,536 bytes, else two bytes, low first, in pages 1 and 2": by the length alone, whatever the page code
abbrev pub is_wide : (length : ℕ) → Bool
is_wide n = ltb 65536 n

-- page 0 and the table's
abbrev pub set_aside : (length : ℕ) → ℕ
set_aside n = if is_wide n then 3 else 2

-- the link of page p, in a table that begins on page 1
abbrev pub link_field : (wide : Bool) (size page : ℕ) → Field
link_field true size p = pair (size + 2 * p)
link_field false size p = byte (size + p)

-- A page of a file is all content; bytes 4 and 5 are the number of free pages, and the bitmap begins at byte 7.
abbrev pub geometry_by : (wide : Bool) (aside size : ℕ) → Geometry
geometry_by wide aside size = record { aside = aside; size = size; room = size; link = λ p. link_field wide size p; count = pair 4; map = 7 }

abbrev pub geometry2 : (code length : ℕ) → Geometry
geometry2 code n = geometry_by (is_wide n) (set_aside n) (page_size code)

-- k, the number of pages of a file of s bytes, "at a full page of content each"; an empty one has a page too
unfoldable pub pages_for : (page_size : ℕ) → ℕ → ℕ
pages_for size s = max 1 ((s + (size - 1)) / size)

-- ---- Refusals 1, 2 and 26

-- "1 is a length that isn't a multiple of 2,048 from 2,048 to 1,048,576"
unfoldable pub valid_length : ℕ → Bool
valid_length n = conditions (eqb (n % 2048) 0 ∷ leb 2048 n ∷ leb n 1048576 ∷ [])

-- "26 is a page code above 2 or too small for the image by the document's table, a length that isn't a multiple of 8 pages"
unfoldable pub fit_code : (code length : ℕ) → Bool
fit_code code n = conditions (
    leb code 2
    ∷ (leb n 65536 || leb 1 code)
    ∷ (leb n 262144 || leb 2 code)
    ∷ eqb (n % (8 * page_size code)) 0
    ∷ [])

-- The header: 0 5A, 1 02, 2 and 3 the bitmap's bytes, 4 and 5 the free pages, 6 the page code, from 7 on the bitmap; low byte first.
abbrev pub code_in : Bytes → ℕ
code_in b = byte_at b 6

-- "2 is a wrong byte 0 or 1"
unfoldable pub is_version2 : Bytes → Bool
is_version2 b = conditions (eqb (byte_at b 0) 0x5A ∷ eqb (byte_at b 1) 2 ∷ [])

-- "or bitmap bytes other than N/8"
unfoldable pub fit_header : Bytes → Bool
fit_header b = conditions (fit_code (code_in b) (length b) ∷ eqb (load (pair 2) b) (page_count (code_in b) (length b) / 8) ∷ [])

-- the lines of these numbers, in the table's order: 26 after 2
abbrev pub header_lines : Bytes → List Line
header_lines b = (not (valid_length (length b)), refusal 1) ∷ (not (is_version2 b), refusal 2) ∷ (not (fit_header b), refusal 26) ∷ []
