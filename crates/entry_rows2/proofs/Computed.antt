-- An entry's 32 bytes by its fields, each field with bytes of its own, so that a wrong order, a wrong width and a forgotten field are each refused by a row. Computed
-- from the definitions, each holds by `refl`.
use mathlib.Core.Path.{◌≡◌, refl}
use mathlib.Core.Bool.{true, false}
use mathlib.Core.List.{[], ◌∷◌, ◌++◌}
use lib.ListN.{length, replicate}
use Rattle.volume.specs.Bytes.{Bytes, zeros}
use Rattle.model.specs.Call.{is_file, is_directory, empty, holds, refusal, refused, granted}
use Rattle.model2.specs.Entry.{entry_at}
use Rattle.model2.proofs.Run2.{computing2}
use Rattle.model2.proofs.Desk2.{called, slot}
use Rattle.arrivals.specs.Listed.{entry_told}
use Rattle.entry_rows2.specs.Row.{row_bytes, entry_bytes, listed_bytes}

-- sixteen letters and eight bytes, no two of them alike
abbrev name : Bytes
name = 0x61 ∷ 0x62 ∷ 0x63 ∷ 0x64 ∷ 0x65 ∷ 0x66 ∷ 0x67 ∷ 0x68 ∷ 0x69 ∷ 0x6A ∷ 0x6B ∷ 0x6C ∷ 0x6D ∷ 0x6E ∷ 0x6F ∷ 0x70 ∷ []

abbrev date : Bytes
date = 0x19 ∷ 0x87 ∷ 0x12 ∷ 0x31 ∷ 0x05 ∷ 0x23 ∷ 0x59 ∷ 0x58 ∷ []

-- occupied, kind, locked, zero; the size, low byte first; the date; the name
pub of_a_file : (entry_bytes (holds (is_file false) name 0x04030201 date)
    ≡ 1 ∷ 0 ∷ 0 ∷ 0 ∷ 0x01 ∷ 0x02 ∷ 0x03 ∷ 0x04 ∷ 0x19 ∷ 0x87 ∷ 0x12 ∷ 0x31 ∷ 0x05 ∷ 0x23 ∷ 0x59 ∷ 0x58
    ∷ 0x61 ∷ 0x62 ∷ 0x63 ∷ 0x64 ∷ 0x65 ∷ 0x66 ∷ 0x67 ∷ 0x68 ∷ 0x69 ∷ 0x6A ∷ 0x6B ∷ 0x6C ∷ 0x6D ∷ 0x6E ∷ 0x6F ∷ 0x70 ∷ [])
    × (entry_bytes (holds (is_file true) name 0x04030201 date) ≡ 1 ∷ 0 ∷ 1 ∷ 0 ∷ 0x01 ∷ 0x02 ∷ 0x03 ∷ 0x04 ∷ (date ++ name))
    × (entry_bytes (holds (is_file false) name 65535 date) ≡ 1 ∷ 0 ∷ 0 ∷ 0 ∷ 0xFF ∷ 0xFF ∷ 0 ∷ 0 ∷ (date ++ name))
    × (entry_bytes (holds (is_file false) name 65536 date) ≡ 1 ∷ 0 ∷ 0 ∷ 0 ∷ 0 ∷ 0 ∷ 1 ∷ 0 ∷ (date ++ name))
unfolding entry_bytes row_bytes
of_a_file = (refl, refl, refl, refl)

-- a directory is never locked; an empty entry is zeros, as long as the others
pub of_others : (entry_bytes (holds is_directory name 1024 date) ≡ 1 ∷ 1 ∷ 0 ∷ 0 ∷ 0x00 ∷ 0x04 ∷ 0 ∷ 0 ∷ (date ++ name))
    × (entry_bytes empty ≡ replicate 32 0)
    × (listed_bytes (granted empty) ≡ replicate 32 0)
    × (listed_bytes (refused (refusal 12)) ≡ [])
    × (length (entry_bytes (holds is_directory name 4294967295 date)) ≡ 32)
unfolding entry_bytes row_bytes listed_bytes zeros
of_others = (refl, refl, refl, refl, refl)

-- From the bytes of an image, where the order is another and a start page stands between name and size: that is not told, however large it is. A directory's
-- size is the page's, whatever its entry has.
pub of_bytes : (entry_bytes (entry_told 512 (entry_at (slot 0x80 (called "0042") 0x34 0x12 0x78 0x56 0x34 0x12 date) 0)) ≡ 1 ∷ 0 ∷ 0 ∷ 0 ∷ 0x78 ∷ 0x56 ∷ 0x34 ∷ 0x12 ∷ (date ++ called "0042"))
    × (entry_bytes (entry_told 512 (entry_at (slot 0xC0 name 0xFF 0xFF 7 0 0 0 date) 0)) ≡ 1 ∷ 0 ∷ 1 ∷ 0 ∷ 7 ∷ 0 ∷ 0 ∷ 0 ∷ (date ++ name))
    × (entry_bytes (entry_told 512 (entry_at (slot 0xC1 name 0x02 0x01 0xFF 0xFF 0xFF 0xFF date) 0)) ≡ 1 ∷ 1 ∷ 0 ∷ 0 ∷ 0x00 ∷ 0x02 ∷ 0 ∷ 0 ∷ (date ++ name))
    × (entry_bytes (entry_told 512 (entry_at (slot 0x7F name 9 9 9 9 9 9 date) 0)) ≡ replicate 32 0)
unfolding computing2 entry_told entry_bytes row_bytes zeros
of_bytes = (refl, refl, refl, refl)
