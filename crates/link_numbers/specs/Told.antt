-- What a number that was read says of the bytes v.
use Rattle.std.specs.Prelude.{ℕ, ◌+◌, ◌*◌, ◌%◌, ◌≤◌, ◌<◌, ◌^◌, length, drop, eqb, if◌then◌else◌, Option, Some, None}
use Rattle.std.proofs.Math.Option.{none, some}
use Rattle.volume.specs.Bytes.{Bytes}
use Rattle.link_list.specs.Coding.{Taken}
use Rattle.link_numbers.specs.declared.Number.{Number}

abbrev pub number_told : Bytes → Option Number → Taken ℕ
number_told v (Some n) = some (n.value, drop n.next v)
number_told v None = none

-- the number is below 128 to the bytes that it may have, and ends within v
abbrev pub NumberFits : Bytes → (most : ℕ) → Option Number → Type 0
NumberFits v most (Some n) = (n.value < 128 ^ most) × (n.next ≤ length v)
NumberFits v most None = Unit {0}

-- a number of at most seven bytes
abbrev pub Short : Option Number → Type 0
Short (Some n) = n.value < 562949953421312
Short None = Unit {0}

-- the byte c, and the number behind it, which is not 0
unfoldable pub joined_to : ℕ → Option Number → Option Number
joined_to c (Some n) = if eqb n.value 0 then None else Some (record { value = c % 128 + 128 * n.value; next = n.next })
joined_to c None = None
