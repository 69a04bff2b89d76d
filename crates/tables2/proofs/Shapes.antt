-- The numbers of paper 02 §12 at the borders of lengths and page codes.
use mathlib.Core.Path.{◌≡◌, refl}
use Prim.Native.Nat.{ℕ}
use mathlib.Core.List.{List, [], ◌∷◌, map}
use lib.ListN.{replicate}
use Rattle.volume.specs.Field.{byte, pair}
use Rattle.model2.specs.Layout.{page_size, page_count, root_start, geometry2, pages_for}
use Rattle.model2.specs.Version2.{entry_count}
use Rattle.model2.specs.Format.{format_lines}
use Rattle.model2.proofs.Run2.{computing2, told_by}

-- ---- which page codes fit a length

-- what format gives for page codes 0, 1, 2, 3 and 255, 0 where it is granted
abbrev by_code : List ℕ → List (List ℕ)
by_code ns = map (λ n. map (λ code. told_by (format_lines code n)) (0 ∷ 1 ∷ 2 ∷ 3 ∷ 255 ∷ [])) ns

pub no_length : by_code (0 ∷ 1 ∷ 256 ∷ 1024 ∷ 2047 ∷ 2049 ∷ 2560 ∷ 3072 ∷ 65535 ∷ 66560 ∷ 1048575 ∷ 1050624 ∷ 2097152 ∷ [])
    ≡ replicate 13 (1 ∷ 1 ∷ 1 ∷ 1 ∷ 1 ∷ [])
unfolding computing2
no_length = refl

-- 65,536 and 262,144 bytes are the last for a code; an image has a multiple of 8 pages, which 67,584 and 264,192 have of no page that is large enough
pub fitting : by_code (2048 ∷ 4096 ∷ 6144 ∷ 8192 ∷ 12288 ∷ 63488 ∷ 65536 ∷ 67584 ∷ 69632 ∷ 73728 ∷ 262144 ∷ 264192 ∷ 266240 ∷ 270336 ∷ 1040384 ∷ 1048576 ∷ [])
    ≡ (0 ∷ 26 ∷ 26 ∷ 26 ∷ 26 ∷ [])
    ∷ (0 ∷ 0 ∷ 26 ∷ 26 ∷ 26 ∷ [])
    ∷ (0 ∷ 26 ∷ 26 ∷ 26 ∷ 26 ∷ [])
    ∷ (0 ∷ 0 ∷ 0 ∷ 26 ∷ 26 ∷ [])
    ∷ (0 ∷ 0 ∷ 26 ∷ 26 ∷ 26 ∷ [])
    ∷ (0 ∷ 26 ∷ 26 ∷ 26 ∷ 26 ∷ [])
    ∷ (0 ∷ 0 ∷ 0 ∷ 26 ∷ 26 ∷ [])
    ∷ (26 ∷ 26 ∷ 26 ∷ 26 ∷ 26 ∷ [])
    ∷ (26 ∷ 0 ∷ 26 ∷ 26 ∷ 26 ∷ [])
    ∷ (26 ∷ 0 ∷ 0 ∷ 26 ∷ 26 ∷ [])
    ∷ (26 ∷ 0 ∷ 0 ∷ 26 ∷ 26 ∷ [])
    ∷ (26 ∷ 26 ∷ 26 ∷ 26 ∷ 26 ∷ [])
    ∷ (26 ∷ 26 ∷ 26 ∷ 26 ∷ 26 ∷ [])
    ∷ (26 ∷ 26 ∷ 0 ∷ 26 ∷ 26 ∷ [])
    ∷ (26 ∷ 26 ∷ 0 ∷ 26 ∷ 26 ∷ [])
    ∷ (26 ∷ 26 ∷ 0 ∷ 26 ∷ 26 ∷ [])
    ∷ []
unfolding computing2
fitting = refl

-- ---- the shape of an image

-- N, pages set aside, page size, the root's first entry, its entries on page 0, and those of any other page
abbrev shape_of : (code length : ℕ) → List ℕ
shape_of code n =
    page_count code n
    ∷ (geometry2 code n).aside
    ∷ (geometry2 code n).size
    ∷ root_start (page_count code n)
    ∷ entry_count (page_size code) (page_count code n) 0
    ∷ entry_count (page_size code) (page_count code n) 1
    ∷ []

pub shapes : map (λ (s : ℕ × ℕ). shape_of s.0 s.1) (
    (0, 2048) ∷ (1, 4096) ∷ (2, 8192) ∷ (0, 51200) ∷ (0, 53248) ∷ (0, 65536) ∷ (1, 65536) ∷ (2, 65536)
    ∷ (1, 69632) ∷ (2, 73728) ∷ (1, 98304) ∷ (1, 102400) ∷ (1, 106496) ∷ (1, 262144) ∷ (2, 262144) ∷ (2, 270336) ∷ (2, 1048576) ∷ [])
    ≡ (8 ∷ 2 ∷ 256 ∷ 32 ∷ 7 ∷ 8 ∷ [])
    ∷ (8 ∷ 2 ∷ 512 ∷ 32 ∷ 15 ∷ 16 ∷ [])
    ∷ (8 ∷ 2 ∷ 1024 ∷ 32 ∷ 31 ∷ 32 ∷ [])
    ∷ (200 ∷ 2 ∷ 256 ∷ 32 ∷ 7 ∷ 8 ∷ [])
    ∷ (208 ∷ 2 ∷ 256 ∷ 64 ∷ 6 ∷ 8 ∷ [])
    ∷ (256 ∷ 2 ∷ 256 ∷ 64 ∷ 6 ∷ 8 ∷ [])
    ∷ (128 ∷ 2 ∷ 512 ∷ 32 ∷ 15 ∷ 16 ∷ [])
    ∷ (64 ∷ 2 ∷ 1024 ∷ 32 ∷ 31 ∷ 32 ∷ [])
    ∷ (136 ∷ 3 ∷ 512 ∷ 32 ∷ 15 ∷ 16 ∷ [])
    ∷ (72 ∷ 3 ∷ 1024 ∷ 32 ∷ 31 ∷ 32 ∷ [])
    ∷ (192 ∷ 3 ∷ 512 ∷ 32 ∷ 15 ∷ 16 ∷ [])
    ∷ (200 ∷ 3 ∷ 512 ∷ 32 ∷ 15 ∷ 16 ∷ [])
    ∷ (208 ∷ 3 ∷ 512 ∷ 64 ∷ 14 ∷ 16 ∷ [])
    ∷ (512 ∷ 3 ∷ 512 ∷ 96 ∷ 13 ∷ 16 ∷ [])
    ∷ (256 ∷ 3 ∷ 1024 ∷ 64 ∷ 30 ∷ 32 ∷ [])
    ∷ (264 ∷ 3 ∷ 1024 ∷ 64 ∷ 30 ∷ 32 ∷ [])
    ∷ (1024 ∷ 3 ∷ 1024 ∷ 160 ∷ 27 ∷ 32 ∷ [])
    ∷ []
unfolding computing2
shapes = refl

-- links of pages 0, 1 and the last: one byte each to 65,536 bytes, whatever the page code, and two above
pub links : map (λ (s : ℕ × ℕ × ℕ). map (geometry2 s.0 s.1).link (0 ∷ 1 ∷ s.2 ∷ [])) (
    (0, 2048, 7) ∷ (0, 65536, 255) ∷ (1, 65536, 127) ∷ (2, 65536, 63) ∷ (1, 69632, 135) ∷ (2, 73728, 71) ∷ (1, 262144, 511) ∷ (2, 1048576, 1023) ∷ [])
    ≡ (byte 256 ∷ byte 257 ∷ byte 263 ∷ [])
    ∷ (byte 256 ∷ byte 257 ∷ byte 511 ∷ [])
    ∷ (byte 512 ∷ byte 513 ∷ byte 639 ∷ [])
    ∷ (byte 1024 ∷ byte 1025 ∷ byte 1087 ∷ [])
    ∷ (pair 512 ∷ pair 514 ∷ pair 782 ∷ [])
    ∷ (pair 1024 ∷ pair 1026 ∷ pair 1166 ∷ [])
    ∷ (pair 512 ∷ pair 514 ∷ pair 1534 ∷ [])
    ∷ (pair 1024 ∷ pair 1026 ∷ pair 3070 ∷ [])
    ∷ []
links = refl

-- the pages of a file
pub counted : map (λ size. map (pages_for size) (0 ∷ 1 ∷ 255 ∷ 256 ∷ 257 ∷ 511 ∷ 512 ∷ 513 ∷ 1023 ∷ 1024 ∷ 1025 ∷ 1300 ∷ 65536 ∷ 65537 ∷ 1048576 ∷ 4294967295 ∷ [])) (256 ∷ 512 ∷ 1024 ∷ [])
    ≡ (1 ∷ 1 ∷ 1 ∷ 1 ∷ 2 ∷ 2 ∷ 2 ∷ 3 ∷ 4 ∷ 4 ∷ 5 ∷ 6 ∷ 256 ∷ 257 ∷ 4096 ∷ 16777216 ∷ [])
    ∷ (1 ∷ 1 ∷ 1 ∷ 1 ∷ 1 ∷ 1 ∷ 1 ∷ 2 ∷ 2 ∷ 2 ∷ 3 ∷ 3 ∷ 128 ∷ 129 ∷ 2048 ∷ 8388608 ∷ [])
    ∷ (1 ∷ 1 ∷ 1 ∷ 1 ∷ 1 ∷ 1 ∷ 1 ∷ 1 ∷ 1 ∷ 1 ∷ 2 ∷ 2 ∷ 64 ∷ 65 ∷ 1024 ∷ 4194304 ∷ [])
    ∷ []
unfolding computing2
counted = refl
