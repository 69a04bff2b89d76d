-- The owners of each page computed on real images: that a page is named by its own entry, and not by another of the same file or directory tree,
-- is held to the paper by these rows.
use mathlib.Core.Path.{◌≡◌, refl}
use Prim.Native.Nat.{ℕ, ◌-◌}
use mathlib.Core.Bool.{true, false}
use mathlib.Core.List.{List, [], ◌∷◌, ◌++◌}
use lib.ListN.{length, replicate, set}
use Rattle.volume.specs.Bytes.{Bytes, put}
use Rattle.model.specs.Sound.{sound}
use Rattle.model.proofs.Run.{computing}
use Rattle.model.proofs.Desk.{fresh, one, two, desk, full, shelf, far}
use Rattle.audit.specs.Owner.{owner_of, owner_row, owner_numbers}

-- a sound image, whose first pages have these owners, and nobody owns the others
abbrev pub owned : Bytes → List ℕ → Type 0
owned b owners = (sound b ≡ true) × (owner_numbers b ≡ owners ++ replicate (256 - length owners) 0)

-- no, and the row names nobody
abbrev pub unowned : Bytes → Type 0
unowned b = (sound b ≡ false) × (owner_numbers b ≡ replicate 256 0)

abbrev pub Rows : Type 0
Rows =
    owned fresh (1 ∷ [])
    -- a file of two pages that are not neighbours, a directory, and what is in it; a file of three pages; page N − 1 owned; 16 pages
    × owned desk (1 ∷ 64 ∷ 96 ∷ 512 ∷ 544 ∷ 64 ∷ [])
    × owned shelf (1 ∷ 64 ∷ 96 ∷ 96 ∷ 96 ∷ 128 ∷ [])
    × owned full (1 ∷ 64 ∷ 96 ∷ 128 ∷ 160 ∷ 192 ∷ 224 ∷ 512 ∷ [])
    × owned far (1 ∷ replicate 8 0 ++ 64 ∷ [])
    -- each fault: 16, 17, 18, 20, 19, 3
    × unowned (set one 65 0x1F)
    × unowned (set one 81 8)
    × unowned (set (set two 113 1) 4 0b11)
    × unowned (put 3 (7 ∷ 0b1 ∷ []) one)
    × unowned (put 3 (5 ∷ 0b111 ∷ []) one)
    × unowned (set one 3 5)
    -- header, length, no bytes
    × unowned (set one 2 2)
    × unowned (one ++ 0 ∷ [])
    × unowned []

pub rows_hold : Rows
unfolding computing owner_of owner_row owner_numbers fresh one two desk full shelf far
rows_hold = ((refl, refl), (refl, refl), (refl, refl), (refl, refl), (refl, refl), (refl, refl), (refl, refl), (refl, refl), (refl, refl), (refl, refl), (refl, refl), (refl, refl), (refl, refl), (refl, refl))
