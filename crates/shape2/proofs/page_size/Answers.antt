-- `page_size` shifts within the word, as the code is at most 2.
use Rattle.fields.proofs.Plain.{arith}
use native.Mathlib.Nat.{mod-eq_of_lt}
use Prim.Native.Nat.{ℕ, zero, suc, ◌*◌, ◌<◌, ◌≤◌, ◌^◌}
use Rattle.shape2.proofs.page_size.Goals as goal

small : (k : ℕ) → k ≤ 2 → 256 * 2 ^ k < 2 ^ 64
small zero h = omega arith
small (suc zero) h = omega arith
small (suc (suc zero)) h = omega arith
small (suc (suc (suc k))) h = absurd (omega arith)

pub returns : goal.returns
returns c = mod-eq_of_lt (small _ c.requires)
