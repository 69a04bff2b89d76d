-- A mark leaves the count as it is: the bitmap's bytes come after it.
use mathlib.Core.Path.{◌≡◌, ap, ◌∙◌}
use Prim.Native.Nat.{ℕ}
use native.Mathlib.Omega.{arith}
use Rattle.volume.specs.Bytes.{Bytes}
use Rattle.volume.specs.Geometry as On
use Rattle.volume.specs.Geometry.{Geometry}
use Rattle.volume.proofs.Fields.{load_same}
use Rattle.volume.proofs.Marks.{mark_out}
use Rattle.shape_pages.specs.Order.{CountFirst}

pub count_marked : (g : Geometry) (p free : ℕ) (b r : Bytes) → CountFirst g → r ≡ On.mark g p b → free ≡ On.free_count g r → free ≡ On.free_count g b
count_marked g p free b r h e f =
    f ∙ ap (On.free_count g) e ∙ load_same g.count b (On.mark g p b) (λ i l u. mark_out g p b i (λ k. omega (arith, h, k)))
