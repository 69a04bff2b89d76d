-- The pages that a write wants: more bytes than an image has want more pages than are free, since a page has at most 1,024; what does not grow wants none.
use mathlib.Core.Path.{◌≡◌, sym, ap}
use Prim.Native.Nat.{ℕ, ◌+◌, ◌-◌, ◌≤◌, ◌<◌, max}
use native.Mathlib.Nat.{mul-le-mul_right}
use native.Mathlib.Omega.{arith}
use mathlib.Core.Bool.{true, false}
use lib.Dec.{ltb}
use borrow.Author.Tests.{lt-ltb, le-ltb}
use Rattle.volume.specs.Bytes.{Bytes}
use Rattle.volume.specs.Geometry as On
use Rattle.model2.specs.Layout.{pages_for}
use Rattle.laws2.proofs.Counts2.{fill_up2}
use Rattle.shape.specs.declared.Shape.{Shape}
use Rattle.shape.specs.Geometry.{geometry_of}
use Rattle.changes2.proofs.Writes2.{pages_rise}
use Rattle.writes2.specs.Asked.{Counted}

-- by the size of the file that is left
abbrev pub more : Shape → (k z : ℕ) → ℕ
more s k z = pages_for s.size z - pages_for s.size k

module _ {s : Shape} {k from : ℕ} {b : Bytes} (a : Counted s k from b) (n : ℕ) where
  pub too_long : 1048576 < n → true ≡ ltb (On.free_count (geometry_of s) b) (more s k (max k (from + n)))
  too_long h =
      let z : ℕ = max k (from + n) in
      sym (lt-ltb (On.free_count (geometry_of s) b) (more s k z) (omega (
        arith,
        fill_up2 s.size z (omega (arith, a.large)),
        mul-le-mul_right {m = s.size} {n = 1024} (pages_for s.size z) a.bound,
        a.few,
      )))

  pub no_longer : from + n ≤ k → false ≡ ltb (On.free_count (geometry_of s) b) (more s k (max k (from + n)))
  no_longer h =
      let e : max k (from + n) ≡ k = omega arith in
      sym (le-ltb (On.free_count (geometry_of s) b) (more s k (max k (from + n))) (rw e (omega arith)))

  -- the code counts the pages that the file then has, and those that it has
  module _ (h : k < from + n) where
    pub longer : ltb (On.free_count (geometry_of s) b) (more s k (from + n)) ≡ ltb (On.free_count (geometry_of s) b) (more s k (max k (from + n)))
    longer = let e : from + n ≡ max k (from + n) = omega arith in ap (λ (z : ℕ). ltb (On.free_count (geometry_of s) b) (more s k z)) e

    pub no_fewer : pages_for s.size k ≤ pages_for s.size (from + n)
    no_fewer = omega (arith, pages_rise s.size k (from + n) (omega (arith, a.large)) (omega arith))
