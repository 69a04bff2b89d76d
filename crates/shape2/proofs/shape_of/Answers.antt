-- `shape_of` divides by a page size, which is never 0.
use Rattle.fields.proofs.Plain.{arith}
use Prim.Native.Nat.{ℕ, zero, suc, ◌*◌, ◌≤◌, ◌^◌}
use Rattle.shape2.proofs.shape_of.Goals as goal

some : (k : ℕ) → k ≤ 2 → 1 ≤ 256 * 2 ^ k
some zero h = omega arith
some (suc zero) h = omega arith
some (suc (suc zero)) h = omega arith
some (suc (suc (suc k))) h = absurd (omega arith)

pub nonzero_div-pages : goal.nonzero_div-pages
nonzero_div-pages c = omega (arith, c.page_size-size.ensures, some _ c.requires)
