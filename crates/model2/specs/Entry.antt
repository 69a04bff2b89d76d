-- Paper 02 §12, "Slots have a 16-bit start page and a 32-bit size", and document 001, second edition: flags 0, name 1 to 16, start page 17 and 18, size
-- 19 to 22, date 23 to 30, reserved 31. An entry as a value is `Entry` of the crate `model`.
use Rattle.std.specs.Prelude.{ℕ, ◌+◌, ◌*◌, ◌/◌, ◌%◌, Bool, [], ◌∷◌, ◌++◌, eqb, if◌then◌else◌}
use Rattle.volume.specs.Bytes.{Bytes, byte_at, part, le16, bit}
use Rattle.volume.specs.Field.{Field, pair, load}
use Rattle.model.specs.Entry.{Entry, vacant, a_file, a_directory}

-- ---- the fields of the entry at position `at`

abbrev pub flags : Bytes → ℕ → ℕ
flags b at = byte_at b at

abbrev pub occupied : Bytes → ℕ → Bool
occupied b at = eqb (bit 7 (flags b at)) 1

abbrev pub is_directory : Bytes → ℕ → Bool
is_directory b at = eqb (bit 0 (flags b at)) 1

-- A file is locked by bit 6 ("Locking applies as in version 1").
abbrev pub is_locked : Bytes → ℕ → Bool
is_locked b at = eqb (bit 6 (flags b at)) 1

abbrev pub name_at : Bytes → ℕ → Bytes
name_at b at = part (at + 1) 16 b

abbrev pub start_field : ℕ → Field
start_field at = pair (at + 17)

abbrev pub start_at : Bytes → ℕ → ℕ
start_at b at = load (start_field at) b

abbrev pub size_place : ℕ → ℕ
size_place at = at + 19

abbrev pub size_at : Bytes → ℕ → ℕ
size_at b at = load (pair (at + 19)) b + 65536 * load (pair (at + 21)) b

abbrev pub date_at : Bytes → ℕ → Bytes
date_at b at = part (at + 23) 8 b

-- ---- an entry read, and written

unfoldable pub entry_at : Bytes → ℕ → Entry
entry_at b at =
    if occupied b at
    then (if is_directory b at then a_directory (name_at b at) (date_at b at) (start_at b at) (size_at b at)
    else a_file (is_locked b at) (name_at b at) (date_at b at) (start_at b at) (size_at b at))
    else vacant

-- a size in four bytes, the low one first
abbrev pub size_bytes : ℕ → Bytes
size_bytes n = le16 (n % 65536) ++ le16 (n / 65536)

-- the 32 bytes that a make writes, with no start page yet; the last is reserved
unfoldable pub new_entry : (flags : ℕ) (name : Bytes) (size : ℕ) (date : Bytes) → Bytes
new_entry flags name size date = flags ∷ (name ++ (le16 0 ++ (size_bytes size ++ (date ++ (0 ∷ [])))))
