-- A copied part is the entry's name, or its date.
use mathlib.Core.Path.{◌≡◌, ◌∙◌}
use Prim.Native.Nat.{ℕ, ◌+◌, ◌-◌}
use native.Mathlib.Omega.{arith}
use lib.ListN.{take, drop}
use Rattle.volume.specs.Bytes.{Bytes, part}
use Rattle.model.specs.Entry.{name_at, date_at}

pub part_copied : (b : Bytes) (from to n : ℕ) → to ≡ from + n → take (to - from) (drop from b) ≡ part from n b
part_copied b from to n e = let d : to - from ≡ n = omega arith in rw d

-- the bytes r of an entry's name, and those of its date
module _ (b r : Bytes) (at : ℕ) where
  pub name_copied : r ≡ take (at + 17 - (at + 1)) (drop (at + 1) b) → r ≡ name_at b at
  name_copied e = e ∙ part_copied b (at + 1) (at + 17) 16 (omega arith)

  pub date_copied : r ≡ take (at + 28 - (at + 20)) (drop (at + 20) b) → r ≡ date_at b at
  date_copied e = e ∙ part_copied b (at + 20) (at + 28) 8 (omega arith)
