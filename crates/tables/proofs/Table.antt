-- Document 01, "At the bench": the cases marked T, computed on real images by the definitions, so each holds by `refl`. Cases 2 and 5 are as paper 02
-- §1 has them: an empty file has a page.
use mathlib.Core.Path.{refl}
use Prim.Native.Nat.{ℕ, ◌+◌, ◌-◌}
use Prim.Native.String.{String}
use mathlib.Core.Bool.{false}
use mathlib.Core.List.{List, [], ◌∷◌, ◌++◌, map}
use lib.ListN.{replicate}
use Rattle.volume.specs.Bytes.{Bytes, part, byte_at}
use Rattle.volume.specs.Geometry as On
use Rattle.model.specs.Layout.{version1, pages_for, page_bit}
use Rattle.model.specs.Call.{Call, format, verdict, find, list, make_file, make_directory, write, is_file, holds, granted}
use Rattle.model.specs.Text.{text}
use Rattle.model.proofs.Run.{computing, Case, ◌gives◌, refusal, refusal_at, done, sized, answered, shown, Hold, computed, stated, hold}
use Rattle.model.proofs.Desk.{day1 as date}

-- ---- the arguments

abbrev pub new_file : String → Call
new_file path = make_file (text path) date

abbrev pub new_directory : String → Call
new_directory path = make_directory (text path) date

-- n bytes FF
abbrev write_at : String → (at n : ℕ) → Call
write_at path at n = write (text path) at (replicate n 0xFF)

-- 2,048 bytes of which none is zero
abbrev pub blank : Bytes
blank = replicate 2048 0xE5

-- ---- the table

-- of root entry 0 the start page and the size's bytes, then the first bitmap byte and the free count
fields : Bytes → Bytes
fields b = part (64 + 17) 3 b ++ byte_at b 4 ∷ byte_at b 3 ∷ []

pub table : List Case
table =
    -- 1
    shown blank (format gives done ∷ verdict gives sized 8 7 ∷ []) (part 0 5) (0x5A ∷ 0x01 ∷ 0x01 ∷ 0x07 ∷ 0x01 ∷ [])
    -- 2: free 5, since each of the two has a page
    ∷ answered blank (
    format gives done
    ∷ new_file "/0042" gives done
    ∷ new_file "/42" gives done
    ∷ list (text "/") 0 gives granted (holds (is_file false) (text "0042" ++ replicate 12 0) 0 date)
    ∷ list (text "/") 1 gives granted (holds (is_file false) (text "42" ++ replicate 14 0) 0 date)
    ∷ verdict gives sized 8 5
    ∷ find (text "/00042") gives refusal_at 5 1
    ∷ [])
    -- 3
    ∷ shown blank (format gives done ∷ new_file "/0042" gives done ∷ write_at "/0042" 0 255 gives done ∷ [])
    fields (1 ∷ 0xFF ∷ 0x00 ∷ 0x03 ∷ 6 ∷ [])
    -- 4
    ∷ shown blank (format gives done ∷ new_file "/0042" gives done ∷ write_at "/0042" 0 255 gives done ∷ write_at "/0042" 255 1 gives done ∷ [])
    (λ b. byte_at b 256 ∷ byte_at b 512 ∷ fields b) (2 ∷ 0 ∷ 1 ∷ 0x00 ∷ 0x01 ∷ 0x07 ∷ 5 ∷ [])
    -- 5: by the rule, and by the free number; a file of no bytes has a page too
    ∷ shown blank (
    format gives done
    ∷ new_file "/A" gives done ∷ write_at "/A" 0 512 gives done ∷ verdict gives sized 8 (7 - 3)
    ∷ new_file "/B" gives done ∷ write_at "/B" 0 0 gives done ∷ verdict gives sized 8 (7 - 3 - 1)
    ∷ new_file "/C" gives done ∷ write_at "/C" 0 255 gives done ∷ verdict gives sized 8 (7 - 3 - 1 - 1)
    ∷ new_file "/D" gives done ∷ write_at "/D" 0 256 gives done ∷ verdict gives sized 8 (7 - 3 - 1 - 1 - 2)
    ∷ [])
    (λ b. map pages_for (512 ∷ 0 ∷ 255 ∷ 256 ∷ [])) (3 ∷ 1 ∷ 1 ∷ 2 ∷ [])
    -- 6: in 65,536 zeros; before the image after the mark stand the bits of pages 153 to 155 in it
    ∷ shown (replicate 65536 0) []
    (λ b. let marked = On.mark version1 154 b in map (page_bit marked) (153 ∷ 154 ∷ 155 ∷ []) ++ marked)
    (0 ∷ 1 ∷ 0 ∷ replicate (4 + 19) 0 ++ 0b100 ∷ replicate (65536 - 4 - 20) 0)
    -- 7
    ∷ answered blank (
    format gives done ∷ new_file "/0042" gives done ∷ write_at "/0042" 0 1786 gives refusal 10
    ∷ write_at "/0042" 0 1785 gives done ∷ verdict gives sized 8 0 ∷ [])
    -- 8
    ∷ answered blank (
    format gives done
    ∷ new_directory "/A" gives done ∷ new_directory "/B" gives done ∷ new_directory "/C" gives done
    ∷ new_directory "/D" gives done ∷ new_directory "/E" gives done ∷ new_directory "/F" gives done
    ∷ verdict gives sized 8 1 ∷ new_directory "/G" gives refusal 9 ∷ [])
    -- 9
    ∷ answered blank (
    format gives done
    ∷ new_file "/0123456789ABCDEF" gives done
    ∷ new_file "/0123456789ABCDEFG" gives refusal 4
    ∷ new_file "//A" gives refusal 4
    ∷ new_file "/A/" gives refusal 4
    ∷ [])
    -- 10
    ∷ answered blank (
    format gives done ∷ new_file "/0042" gives done ∷ write_at "/0042" 0 255 gives done
    ∷ write_at "/0042" 256 1 gives refusal 12
    ∷ write_at "/0042" 255 1 gives done
    ∷ find (text "/0042") gives granted (record { kind = (is_file false); size = 256; date = date })
    ∷ [])
    ∷ []

pub cases : Hold table
unfolding computing computed stated table fields
cases = hold table refl
