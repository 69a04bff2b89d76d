-- The entries of a page lie on it, every page has one, and none has more than 32.
use Prim.Native.Nat.{ℕ, zero, suc, ◌+◌, ◌*◌, ◌≤◌, ◌<◌}
use native.Mathlib.Omega.{arith}
use lib.Dec.{eqb-suc-zero}
use Rattle.model2.specs.Version2.{entry_count, entries_start}
use Rattle.rows2.specs.Roomy.{Roomy}

module _ {size n : ℕ} (r : Roomy size n) where
  pub entry_lies : (p i : ℕ) → i < entry_count size n p → entries_start size n p + 32 * i + 32 ≤ size * p + size
  entry_lies zero i h = omega (arith, r.large, r.few)
  entry_lies (suc p) i h = let k = rw (eqb-suc-zero p) at h in rw (eqb-suc-zero p) (omega arith)

  pub some_entry : (p : ℕ) → 0 < entry_count size n p
  some_entry zero = omega (arith, r.large, r.few)
  some_entry (suc p) = rw (eqb-suc-zero p) (omega (arith, r.large))

  pub few_entries : (p : ℕ) → entry_count size n p ≤ 32
  few_entries zero = omega (arith, r.bound)
  few_entries (suc p) = rw (eqb-suc-zero p) (omega (arith, r.bound))
