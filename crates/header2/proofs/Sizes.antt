-- A page has at least 256 bytes and at most 1,024, by its code, and no code above 2 fits an image.
use mathlib.Core.Path.{◌≡◌}
use mathlib.Core.Bool.{false}
use Prim.Native.Nat.{ℕ, zero, suc, ◌≤◌, ◌<◌}
use native.Mathlib.Omega.{arith}
use borrow.Author.Tests.{lt-leb}
use Rattle.volume.specs.Lists.{all}
use Rattle.model2.specs.Layout.{page_size, fit_code}

pub size_bounds : (code : ℕ) → code ≤ 2 → (256 ≤ page_size code) × (page_size code ≤ 1024)
size_bounds zero h = (omega arith, omega arith)
size_bounds (suc zero) h = (omega arith, omega arith)
size_bounds (suc (suc zero)) h = (omega arith, omega arith)
size_bounds (suc (suc (suc k))) h = absurd (omega arith)

pub high_code : (code n : ℕ) → 2 < code → false ≡ fit_code code n
unfolding fit_code all
high_code code n h = rw (lt-leb _ _ h)
