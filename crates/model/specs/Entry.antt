-- Document 01, "A slot" (000, "Directory and entry structure"): directories and the fields of an entry.
use Rattle.std.specs.Prelude.{ℕ, ◌+◌, ◌*◌, Bool, List, ◌∷◌, ◌++◌, map, replicate, eqb, if◌then◌else◌}
use Rattle.volume.specs.Bytes.{Bytes, byte_at, part, le16, bit}
use Rattle.volume.specs.Lists.{up_to}
use Rattle.model.specs.Layout.{page_size}

-- The root has 6 entries from byte 64 of the header page on, any other directory 8 on its page.
abbrev pub entry_count : ℕ → ℕ
entry_count p = if eqb p 0 then 6 else 8

abbrev pub entries_start : ℕ → ℕ
entries_start p = page_size * p + (if eqb p 0 then 64 else 0)

-- the positions of the entries of the directory on page p
unfoldable pub entries : ℕ → List ℕ
entries p = map (λ i. entries_start p + 32 * i) (up_to (entry_count p))

-- ---- the fields of the entry at position `at`

abbrev pub flags : Bytes → ℕ → ℕ
flags b at = byte_at b at

abbrev pub occupied : Bytes → ℕ → Bool
occupied b at = eqb (bit 7 (flags b at)) 1

-- Only bit 0 of the flags says that an entry is a directory; its size does not.
abbrev pub is_directory : Bytes → ℕ → Bool
is_directory b at = eqb (bit 0 (flags b at)) 1

abbrev pub name_at : Bytes → ℕ → Bytes
name_at b at = part (at + 1) 16 b

abbrev pub start_at : Bytes → ℕ → ℕ
start_at b at = byte_at b (at + 17)

abbrev pub size_at : Bytes → ℕ → ℕ
size_at b at = byte_at b (at + 18) + 256 * byte_at b (at + 19)

abbrev pub date_at : Bytes → ℕ → Bytes
date_at b at = part (at + 20) 8 b

-- A file is locked by bit 6 (paper 02 §10). On a directory the bit says nothing.
abbrev pub is_locked : Bytes → ℕ → Bool
is_locked b at = eqb (bit 6 (flags b at)) 1

-- ---- an entry as a value

-- A vacant entry may hold anything.
pub data Entry : Type 0 where
  vacant : Entry
  a_file : (locked : Bool) (name date : Bytes) (start size : ℕ) → Entry
  a_directory : (name date : Bytes) (start size : ℕ) → Entry

unfoldable pub entry_at : Bytes → ℕ → Entry
entry_at b at =
    if occupied b at
    then (if is_directory b at then a_directory (name_at b at) (date_at b at) (start_at b at) (size_at b at)
    else a_file (is_locked b at) (name_at b at) (date_at b at) (start_at b at) (size_at b at))
    else vacant

-- the 32 bytes that a make writes; the last four are reserved
unfoldable pub new_entry : (flags : ℕ) (name : Bytes) (start size : ℕ) (date : Bytes) → Bytes
new_entry flags name start size date = flags ∷ (name ++ (start ∷ (le16 size ++ (date ++ replicate 4 0))))
