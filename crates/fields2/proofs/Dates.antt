-- A date copied over eight bytes is the date.
use mathlib.Core.Path.{◌≡◌, ◌∙◌}
use Prim.Native.Nat.{ℕ, ◌+◌, ◌-◌}
use native.Mathlib.Omega.{arith}
use lib.ListN.{take, drop}
use Rattle.volume.specs.Bytes.{Bytes}
use Rattle.fields.proofs.Copied.{part_copied}
use Rattle.model2.specs.Entry.{date_at}

pub date_copied : (b r : Bytes) (at : ℕ) → r ≡ take (at + 31 - (at + 23)) (drop (at + 23) b) → r ≡ date_at b at
date_copied b r at e = e ∙ part_copied b (at + 23) (at + 31) 8 (omega arith)
