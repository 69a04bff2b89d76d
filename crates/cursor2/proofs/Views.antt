-- What the functions of this crate ask and answer, for an allowed image whose shape `shape_of` made: the numbers are roomy, pages below N lie in the image
-- with their links, and the row is that of the image's view.
use mathlib.Core.Path.{◌≡◌, sym, ap, ap₂, subst}
use Prim.Native.Nat.{ℕ, ◌<◌}
use native.Mathlib.Omega.{arith}
use mathlib.Core.List.{List, flat_map}
use lib.ListN.{length}
use Rattle.volume.specs.Bytes.{Bytes}
use Rattle.volume.specs.Geometry as On
use Rattle.volume.specs.Geometry.{Geometry}
use Rattle.volume.proofs.Occ.{Mem}
use Rattle.volume.proofs.Follow.{Each, PageLies, Lies}
use Rattle.model2.specs.Layout.{page_count, geometry2}
use Rattle.model2.specs.Version2.{linked_pages, entries_on, view_by}
use Rattle.laws2.proofs.Bounds.{Allowed, bounds}
use Rattle.laws2.proofs.Version2.{lies2}
use Rattle.shape.specs.declared.Shape.{Shape}
use Rattle.shape.specs.Geometry.{geometry_of}
use Rattle.rows2.specs.Roomy.{Roomy}
use Rattle.cursor2.specs.Row.{row, AllLie}

module _ {code n : ℕ} (a : Allowed code n) (s : Shape) (pages : ℕ) (made : geometry_of s ≡ geometry2 code n) (counted : pages ≡ page_count code n) where
  pub roomy : Roomy s.size pages
  roomy =
      let m = bounds a in
      let e = ap (λ (g : Geometry). g.size) made in
      record { large = omega (arith, m.large, e); bound = omega (arith, m.bound, e); few = omega (arith, m.few, counted) }

  pub row_view : (b : Bytes) (p : ℕ) → row s pages b p ≡ (view_by code n b).entries p
  row_view b p = ap₂ (λ (g : Geometry) (N : ℕ). flat_map (entries_on g.size N) (linked_pages (On.next g b) N p)) made counted

  pub all_lie : (b : Bytes) → length b ≡ n → (ps : List ℕ) → ((q : ℕ) → Mem q ps → q < pages) → AllLie s b ps
  all_lie b len ps h =
      subst (λ (g : Geometry). Each (λ q. PageLies g q b × Lies (g.link q) b) ps) (sym made) (λ q m. lies2 a b len q (omega (arith, h q m, counted)))
