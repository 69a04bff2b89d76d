-- Repair computed on real images: what it mends, what stops it, and what it leaves. The laws would hold of a repair that told other numbers or moved
-- other bytes of the bitmap; these rows would not.
use mathlib.Core.Path.{◌≡◌, refl}
use Prim.Native.Nat.{ℕ}
use mathlib.Core.List.{[], ◌∷◌, ◌++◌}
use lib.ListN.{replicate, set, take}
use Rattle.volume.specs.Bytes.{Bytes, put}
use Rattle.model.specs.Call.{refused, granted}
use Rattle.model.proofs.Run.{computing}
use Rattle.model.proofs.Desk.{fresh, one, two, desk, far}
use Rattle.repair.specs.Remark.{remarked, recounted}
use Rattle.repair.specs.Repair.{repaired, repair_lines, repair_answer, repair_after}

abbrev pub mended : (before after : Bytes) → Type 0
mended b c = (repair_answer b ≡ granted tt) × (repair_after b ≡ c)

-- refused by this number, with the three numbers of its place, and left as it was
abbrev pub kept : Bytes → (number x y z : ℕ) → Type 0
kept b n x y z = (repair_answer b ≡ refused (record { number = n; place = (x, y, z) })) × (repair_after b ≡ b)

-- bytes that nobody asks: a bitmap byte past N/8, a reserved byte, and a vacant entry
abbrev pub junk : Bytes → Bytes
junk b = put 128 (0x7F ∷ 0x2F ∷ 9 ∷ []) (set (set b 5 0xFF) 40 7)

-- 256 pages and no file: byte 3, the bitmap, and the rest
unfoldable pub wide : (count : ℕ) → (bitmap : Bytes) → Bytes
wide count bitmap = 0x5A ∷ 0x01 ∷ 0x20 ∷ count ∷ bitmap ++ replicate 220 0 ++ replicate 65280 0xE5

abbrev pub Rows : Type 0
Rows =
    -- every page marked, no page marked, the count alone
    mended (put 3 (77 ∷ 0xFF ∷ []) fresh) fresh
    × mended (put 3 (9 ∷ 0 ∷ []) fresh) fresh
    × mended (set desk 3 9) desk
    -- a lost page beside bytes that nobody asks; lost pages in both bytes of a bitmap
    × mended (junk (put 3 (1 ∷ 0b10111111 ∷ []) desk)) (junk desk)
    × mended (put 3 (0 ∷ 0b101 ∷ 0b10000011 ∷ []) far) far
    -- sound images
    × mended fresh fresh
    × mended (junk desk) (junk desk)
    -- owned and marked free, beside a lost page; owned twice, with a wrong count; a bad entry; a page out of range; a chain that goes on
    × kept (put 3 (0 ∷ 0b10011111 ∷ []) desk) 20 5 0 0
    × kept (set (set two 113 1) 3 9) 18 1 0 0
    × kept (set (set one 65 0x1F) 4 0xFF) 16 0 0 0
    × kept (set (set one 81 8) 4 0xFF) 17 0 0 0
    × kept (set (set one 256 1) 4 0xFF) 17 0 0 1
    -- header and length
    × kept (set one 2 2) 2 0 0 0
    × kept (one ++ 0 ∷ []) 1 0 0 0
    × kept [] 1 0 0 0
    -- 256 pages: 255 are free, though 256 bits were set
    × (take 37 (repair_after (wide 0 (replicate 32 0xFF))) ≡ 0x5A ∷ 0x01 ∷ 0x20 ∷ 255 ∷ 1 ∷ replicate 32 0)

pub rows_hold : Rows
unfolding computing remarked recounted repaired repair_lines repair_answer repair_after fresh one two desk far wide
rows_hold = ((refl, refl), (refl, refl), (refl, refl), (refl, refl), (refl, refl), (refl, refl), (refl, refl), (refl, refl), (refl, refl), (refl, refl), (refl, refl), (refl, refl), (refl, refl), (refl, refl), (refl, refl), refl)
