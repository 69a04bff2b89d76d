-- An entry as list tells it, in 32 bytes.
use Rattle.std.specs.Prelude.{ℕ, Bool, true, false, [], ◌∷◌, ◌++◌}
use Rattle.volume.specs.Bytes.{Bytes, zeros}
use Rattle.model.specs.Call.{is_file, is_directory, Listed, empty, holds, Answer, refused, granted}
use Rattle.model2.specs.Entry.{size_bytes}

abbrev pub flag : Bool → ℕ
flag true = 1
flag false = 0

-- 0 occupied, 1 kind, 2 locked, 3 zero, 4 to 7 the size, low byte first, 8 to 15 the date, 16 to 31 the name
unfoldable pub row_bytes : (kind locked size : ℕ) (date name : Bytes) → Bytes
row_bytes kind locked size date name = 1 ∷ kind ∷ locked ∷ 0 ∷ (size_bytes size ++ (date ++ name))

unfoldable pub entry_bytes : Listed → Bytes
entry_bytes empty = zeros 32
entry_bytes (holds (is_file locked) name size date) = row_bytes 0 (flag locked) size date name
entry_bytes (holds is_directory name size date) = row_bytes 1 0 size date name

-- what list tells, so written
unfoldable pub listed_bytes : Answer Listed → Bytes
listed_bytes (granted x) = entry_bytes x
listed_bytes (refused r) = []
