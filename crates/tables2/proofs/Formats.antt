-- Format's bytes, whole images: the pages set aside are zeroed but for the header and their own bits, and everything behind stays. And the header's
-- refusals.
use mathlib.Core.Path.{◌≡◌, refl}
use Prim.Native.Nat.{ℕ, zero, suc, ◌-◌}
use mathlib.Core.List.{List, [], ◌∷◌, ◌++◌, map}
use lib.ListN.{length, replicate, set}
use Rattle.volume.specs.Bytes.{Bytes, part, put}
use Rattle.volume.specs.Lists.{up_to}
use Rattle.volume.specs.Geometry as On
use Rattle.model.specs.Tree.{Row, end, free}
use Rattle.model.specs.Image.{row_at}
use Rattle.model2.specs.Layout.{header_lines}
use Rattle.model2.specs.Version2.{view2}
use Rattle.model2.specs.Format.{formatted}
use Rattle.model2.proofs.Run2.{computing2, told_by}
use Rattle.model2.proofs.Desk2.{desk2, desk512, desk1024}

-- an image of n bytes whose first are these; the next are 0 up to `zeroed`, and the others E5
abbrev fresh : (head : Bytes) (zeroed n : ℕ) → Bytes
fresh head zeroed n = head ++ (replicate (zeroed - length head) 0 ++ replicate (n - zeroed) 0xE5)

pub narrow : (formatted 0 (replicate 2048 0xE5) ≡ fresh (0x5A ∷ 2 ∷ 1 ∷ 0 ∷ 6 ∷ 0 ∷ 0 ∷ 0b11 ∷ []) 512 2048)
    × (formatted 1 (replicate 4096 0xE5) ≡ fresh (0x5A ∷ 2 ∷ 1 ∷ 0 ∷ 6 ∷ 0 ∷ 1 ∷ 0b11 ∷ []) 1024 4096)
    × (formatted 2 (replicate 8192 0xE5) ≡ fresh (0x5A ∷ 2 ∷ 1 ∷ 0 ∷ 6 ∷ 0 ∷ 2 ∷ 0b11 ∷ []) 2048 8192)
    × (formatted 0 (replicate 65536 0xE5) ≡ fresh (0x5A ∷ 2 ∷ 32 ∷ 0 ∷ 254 ∷ 0 ∷ 0 ∷ 0b11 ∷ []) 512 65536)
    × (formatted 1 (replicate 65536 0xE5) ≡ fresh (0x5A ∷ 2 ∷ 16 ∷ 0 ∷ 126 ∷ 0 ∷ 1 ∷ 0b11 ∷ []) 1024 65536)
    × (formatted 2 (replicate 65536 0xE5) ≡ fresh (0x5A ∷ 2 ∷ 8 ∷ 0 ∷ 62 ∷ 0 ∷ 2 ∷ 0b11 ∷ []) 2048 65536)
unfolding computing2
narrow = (refl, refl, refl, refl, refl, refl)

-- three pages set aside, and numbers of two bytes
pub wide : (formatted 1 (replicate 69632 0xE5) ≡ fresh (0x5A ∷ 2 ∷ 17 ∷ 0 ∷ 133 ∷ 0 ∷ 1 ∷ 0b111 ∷ []) 1536 69632)
    × (formatted 2 (replicate 73728 0xE5) ≡ fresh (0x5A ∷ 2 ∷ 9 ∷ 0 ∷ 69 ∷ 0 ∷ 2 ∷ 0b111 ∷ []) 3072 73728)
    × (part 0 2000 (formatted 1 (replicate 262144 0xE5)) ≡ fresh (0x5A ∷ 2 ∷ 64 ∷ 0 ∷ 253 ∷ 1 ∷ 1 ∷ 0b111 ∷ []) 1536 2000)
unfolding computing2
wide = (refl, refl, refl)

-- ---- a fresh image read: the root is empty, the pages set aside are marked, and the count is that of the others

abbrev vacants : ℕ → Row
vacants zero = end
vacants (suc n) = free (vacants n)

abbrev read : Bytes → Row × List ℕ × ℕ × ℕ
read b =
    let v = view2 b in
    (row_at v.pages v 0, map (On.page_bit v.geometry b) (up_to 8), On.free_count v.geometry b, On.zero_bits v.geometry b v.pages)

pub fresh_read : (read (formatted 0 (replicate 2048 0xE5)) ≡ (vacants 7, 1 ∷ 1 ∷ 0 ∷ 0 ∷ 0 ∷ 0 ∷ 0 ∷ 0 ∷ [], 6, 6))
    × (read (formatted 1 (replicate 4096 0xE5)) ≡ (vacants 15, 1 ∷ 1 ∷ 0 ∷ 0 ∷ 0 ∷ 0 ∷ 0 ∷ 0 ∷ [], 6, 6))
    × (read (formatted 2 (replicate 8192 0xE5)) ≡ (vacants 31, 1 ∷ 1 ∷ 0 ∷ 0 ∷ 0 ∷ 0 ∷ 0 ∷ 0 ∷ [], 6, 6))
    × (read (formatted 0 (replicate 53248 0xE5)) ≡ (vacants 6, 1 ∷ 1 ∷ 0 ∷ 0 ∷ 0 ∷ 0 ∷ 0 ∷ 0 ∷ [], 206, 206))
    × (read (formatted 1 (replicate 69632 0xE5)) ≡ (vacants 15, 1 ∷ 1 ∷ 1 ∷ 0 ∷ 0 ∷ 0 ∷ 0 ∷ 0 ∷ [], 133, 133))
unfolding computing2
fresh_read = (refl, refl, refl, refl, refl)

-- ---- headers

-- what is told of an image's header with some bytes in place of its own
abbrev with_heads : Bytes → List (ℕ × Bytes) → List ℕ
with_heads b vs = map (λ v. told_by (header_lines (put v.0 v.1 b))) vs

pub headers : with_heads desk2 (
    (0, 0x5A ∷ []) ∷ (0, 0x59 ∷ []) ∷ (1, 1 ∷ []) ∷ (1, 3 ∷ []) ∷ (0, 0 ∷ 0 ∷ []) ∷ (1, 1 ∷ 9 ∷ 9 ∷ 0 ∷ 0 ∷ 9 ∷ [])
    ∷ (2, 2 ∷ []) ∷ (2, 4 ∷ []) ∷ (2, 24 ∷ []) ∷ (3, 1 ∷ []) ∷ (6, 1 ∷ []) ∷ (6, 2 ∷ []) ∷ (6, 3 ∷ []) ∷ (6, 255 ∷ []) ∷ (4, 99 ∷ 99 ∷ []) ∷ (7, 0 ∷ 0 ∷ 0 ∷ []) ∷ [])
    ≡ 0 ∷ 2 ∷ 2 ∷ 2 ∷ 2 ∷ 2
    ∷ 26 ∷ 26 ∷ 26 ∷ 26 ∷ 26 ∷ 26 ∷ 26 ∷ 26 ∷ 0 ∷ 0 ∷ []
unfolding computing2 desk2
headers = refl

-- a larger code than needed is fine; a length that fits no longer is not, and no length comes first
pub headers_by_length : (with_heads desk512 ((6, 1 ∷ []) ∷ (6, 0 ∷ []) ∷ (2, 2 ∷ 0 ∷ 0 ∷ 0 ∷ 0 ∷ []) ∷ (6, 2 ∷ []) ∷ []) ≡ 0 ∷ 26 ∷ 0 ∷ 26 ∷ [])
    × (with_heads desk1024 ((6, 2 ∷ []) ∷ (6, 1 ∷ []) ∷ (2, 2 ∷ 0 ∷ 0 ∷ 0 ∷ 1 ∷ []) ∷ (2, 4 ∷ 0 ∷ 0 ∷ 0 ∷ 0 ∷ []) ∷ []) ≡ 0 ∷ 26 ∷ 0 ∷ 0 ∷ [])
    × (map (λ n. told_by (header_lines (part 0 n desk2))) (2048 ∷ 2047 ∷ 7 ∷ 0 ∷ []) ≡ 26 ∷ 1 ∷ 1 ∷ 1 ∷ [])
    × (told_by (header_lines (set desk1024 1 1)) ≡ 2)
unfolding computing2 desk2 desk512 desk1024
headers_by_length = (refl, refl, refl, refl)
