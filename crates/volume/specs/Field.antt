-- A number that stands in an image: in one byte, or in two with the low one first.
use Rattle.std.specs.Prelude.{ℕ, ◌+◌, ◌*◌, ◌/◌, ◌%◌, set}
use Rattle.volume.specs.Bytes.{Bytes, byte_at}

pub data Field : Type 0 where
  byte : (position : ℕ) → Field
  pair : (position : ℕ) → Field

abbrev pub load : Field → Bytes → ℕ
load (byte i) b = byte_at b i
load (pair i) b = byte_at b i + 256 * byte_at b (i + 1)

abbrev pub store : Field → ℕ → Bytes → Bytes
store (byte i) n b = set b i n
store (pair i) n b = set (set b i (n % 256)) (i + 1) (n / 256)
