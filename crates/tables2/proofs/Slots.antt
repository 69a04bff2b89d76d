-- The 32 bytes of an entry: read with every flag that counts, start pages of 16 bits and sizes of 32, and written by a make.
use mathlib.Core.Path.{◌≡◌, refl}
use Prim.Native.Nat.{ℕ, ◌+◌}
use mathlib.Core.Bool.{true, false}
use mathlib.Core.List.{List, [], ◌∷◌, ◌++◌, map}
use lib.ListN.{length, replicate}
use Rattle.volume.specs.Bytes.{put}
use Rattle.volume.specs.Field.{store}
use Rattle.model.specs.Entry.{Entry, vacant, a_file, a_directory}
use Rattle.model2.specs.Entry.{start_field, size_place, size_bytes, entry_at, new_entry}
use Rattle.model2.proofs.Run2.{computing2}
use Rattle.model2.proofs.Desk2.{day1, day2, called, slot, junk}

-- ---- read

abbrev flagged : List ℕ → List Entry
flagged fs = map (λ flags. entry_at (slot flags (called "0042") 5 0 7 0 0 0 day1) 0) fs

-- bit 7 alone says that an entry is occupied, bit 0 that it is a directory, and bit 6 locks a file
pub by_flags : (flagged (0x00 ∷ 0x01 ∷ 0x40 ∷ 0x41 ∷ 0x7E ∷ 0x7F ∷ []) ≡ replicate 6 vacant)
    × (flagged (0x80 ∷ 0x82 ∷ 0x90 ∷ 0xBE ∷ []) ≡ replicate 4 (a_file false (called "0042") day1 5 7))
    × (flagged (0xC0 ∷ 0xC2 ∷ 0xFE ∷ []) ≡ replicate 3 (a_file true (called "0042") day1 5 7))
    × (flagged (0x81 ∷ 0xBF ∷ 0xC1 ∷ 0xFF ∷ []) ≡ replicate 4 (a_directory (called "0042") day1 5 7))
    × (entry_at junk 0 ≡ vacant)
unfolding computing2
by_flags = (refl, refl, refl, refl, refl)

-- the start page by both its bytes, the size by its four, each alone and all together; behind other bytes, and past the end of all
pub by_numbers : (entry_at (slot 0x80 (called "n") 0xFF 0x00 0 0 0 0 day2) 0 ≡ a_file false (called "n") day2 255 0)
    × (entry_at (slot 0x80 (called "n") 0x00 0x01 0 0 0 0 day2) 0 ≡ a_file false (called "n") day2 256 0)
    × (entry_at (slot 0x80 (called "n") 0xFF 0x03 0 0 0 0 day2) 0 ≡ a_file false (called "n") day2 1023 0)
    × (entry_at (slot 0x80 (called "n") 0xFF 0xFF 0 0 0 0 day2) 0 ≡ a_file false (called "n") day2 65535 0)
    × (entry_at (slot 0x80 (called "n") 0 0 0xFF 0 0 0 day2) 0 ≡ a_file false (called "n") day2 0 255)
    × (entry_at (slot 0x80 (called "n") 0 0 0 1 0 0 day2) 0 ≡ a_file false (called "n") day2 0 256)
    × (entry_at (slot 0x80 (called "n") 0 0 0 0 1 0 day2) 0 ≡ a_file false (called "n") day2 0 65536)
    × (entry_at (slot 0x80 (called "n") 0 0 0 0 0 1 day2) 0 ≡ a_file false (called "n") day2 0 16777216)
    × (entry_at (slot 0x81 (called "n") 2 1 0xFF 0xFF 0xFF 0xFF day2) 0 ≡ a_directory (called "n") day2 258 4294967295)
    × (entry_at (replicate 96 0x11 ++ (slot 0x80 (called "sixteen letters!") 0x34 0x12 0x78 0x56 0x34 0x12 day1 ++ replicate 32 0x22)) 96
    ≡ a_file false (called "sixteen letters!") day1 0x1234 0x12345678)
    × (entry_at [] 32 ≡ vacant)
unfolding computing2
by_numbers = (refl, refl, refl, refl, refl, refl, refl, refl, refl, refl, refl)

-- ---- written

pub of_make : (new_entry 0x80 (called "n") 0 day1 ≡ 0x80 ∷ (called "n" ++ (0 ∷ 0 ∷ 0 ∷ 0 ∷ 0 ∷ 0 ∷ 0x20 ∷ 0x26 ∷ 0x11 ∷ 0x15 ∷ 0x07 ∷ 0x14 ∷ 0x30 ∷ 0x00 ∷ 0 ∷ [])))
    × (map (λ size. new_entry 0x81 (called "n") size day2) (256 ∷ 512 ∷ 1024 ∷ [])
    ≡ slot 0x81 (called "n") 0 0 0x00 0x01 0 0 day2 ∷ slot 0x81 (called "n") 0 0 0x00 0x02 0 0 day2 ∷ slot 0x81 (called "n") 0 0 0x00 0x04 0 0 day2 ∷ [])
    × (length (new_entry 0x80 (called "n") 4294967295 day1) ≡ 32)
    × (map size_bytes (0 ∷ 255 ∷ 256 ∷ 65535 ∷ 65536 ∷ 1048576 ∷ 16909060 ∷ 4294967295 ∷ [])
    ≡ (0 ∷ 0 ∷ 0 ∷ 0 ∷ []) ∷ (255 ∷ 0 ∷ 0 ∷ 0 ∷ []) ∷ (0 ∷ 1 ∷ 0 ∷ 0 ∷ []) ∷ (255 ∷ 255 ∷ 0 ∷ 0 ∷ []) ∷ (0 ∷ 0 ∷ 1 ∷ 0 ∷ []) ∷ (0 ∷ 0 ∷ 16 ∷ 0 ∷ []) ∷ (4 ∷ 3 ∷ 2 ∷ 1 ∷ []) ∷ (255 ∷ 255 ∷ 255 ∷ 255 ∷ []) ∷ [])
unfolding computing2
of_make = (refl, refl, refl, refl)

-- a start page and a size put where an entry has them, and nothing else
pub in_place : (store (start_field 32) 0x0102 (replicate 32 9 ++ slot 0x80 (called "n") 0 0 0 0 0 0 day1) ≡ replicate 32 9 ++ slot 0x80 (called "n") 2 1 0 0 0 0 day1)
    × (put (size_place 32) (size_bytes 0x01020304) (replicate 32 9 ++ slot 0x80 (called "n") 7 8 9 9 9 9 day1) ≡ replicate 32 9 ++ slot 0x80 (called "n") 7 8 4 3 2 1 day1)
unfolding computing2
in_place = (refl, refl)
