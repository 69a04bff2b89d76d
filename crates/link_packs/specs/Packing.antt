-- What the packing of a list answers (paper 02 §4).
use Rattle.std.specs.Prelude.{◌≡◌, ℕ, ◌+◌, ◌≤◌, ◌<◌, List, length, take, ⊤, Option, Some, None, Result}
use Rattle.volume.specs.Bytes.{Bytes}
use Rattle.link_list.specs.declared.Row.{Row}
use Rattle.link_list.specs.Coding.{file_of}
use Rattle.link_list.specs.Judging.{bad_row}
use Rattle.link_judge.specs.declared.RowFault.{RowFault}
use Rattle.link_judge.specs.Judged.{list_told}
use Rattle.link_writes.specs.Writing.{PackedAs}

-- so many bytes of v are its file, or it is within 24 of being too long for the room
abbrev pub PacksTo : Result ⊤ RowFault → List Row → (room : ℕ) → (v : Bytes) → Option ℕ → Type 0
PacksTo judged rs room v (Some n) = (n ≤ room) × PackedAs judged (take n v) rs
PacksTo judged rs room v None = (list_told judged ≡ bad_row rs) × (room < length (file_of rs) + 24)
