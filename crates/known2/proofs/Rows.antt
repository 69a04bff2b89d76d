-- A cursor asks that a directory's pages lie in the image: those of a housed directory are pages of the image, and these lie in it with their links. The row that
-- it goes over is then that of the image's view, and each entry of it lies in the image.
use mathlib.Core.Path.{◌≡◌, refl, sym, ap₂, subst}
use Prim.Native.Nat.{ℕ, ◌+◌, ◌≤◌}
use native.Mathlib.Omega.{arith}
use lib.ListN.{length}
use Rattle.volume.specs.Bytes.{Bytes}
use Rattle.volume.specs.Geometry as On
use Rattle.volume.specs.Geometry.{Geometry}
use Rattle.volume.proofs.Occ.{Mem}
use Rattle.model.specs.View.{page_bit}
use Rattle.view_laws.proofs.Slots.{Real}
use Rattle.model2.specs.Version2.{linked_pages, view2}
use Rattle.laws2.proofs.Bounds.{bounds}
use Rattle.laws2.proofs.Version2.{shelved2, sized2}
use Rattle.shape.specs.declared.Shape.{Shape}
use Rattle.shape.specs.Geometry.{geometry_of}
use Rattle.rows2.specs.Roomy.{Roomy}
use Rattle.cursor2.specs.Row.{row, AllLie}
use Rattle.cursor2.proofs.Views.{roomy, row_view, all_lie}
use Rattle.known2.specs.Known.{Formed, Known}
use Rattle.known2.specs.Housed.{Housed}
use Rattle.known2.proofs.Housed.{housed_root, housed_page}

module _ {b : Bytes} {s : Shape} {n : ℕ} (k : Formed b s n) where
  pub formed_roomy : Roomy s.size n
  formed_roomy = roomy k.allowed s n k.made k.count

  pub formed_some : 1 ≤ n
  formed_some = omega (arith, (bounds k.allowed).some, k.count)

  pub formed_row : (p : ℕ) → row s n b p ≡ (view2 b).entries p
  formed_row p = row_view k.allowed s n k.made k.count b p

module _ {b : Bytes} {s : Shape} {n : ℕ} (k : Known b s n) where
  pub known_roomy : Roomy s.size n
  known_roomy = formed_roomy k.formed

  pub known_some : 1 ≤ n
  known_some = formed_some k.formed

  pub known_root : Housed (view2 b) 0
  known_root = housed_root k.facts.formed

  module _ {p : ℕ} (h : Housed (view2 b) p) where
    real_page : (q : ℕ) → Mem q ((view2 b).directory_pages p) → Real (view2 b) q × (page_bit (view2 b) q ≡ 1)
    real_page =
        let w = shelved2 k.formed.allowed in
        housed_page k.facts w.law.header w.high (w.rooted b) h

    pub housed_lies : AllLie s b (linked_pages (On.next (geometry_of s) b) n p)
    housed_lies =
        let f = k.formed in
        subst (AllLie s b) (ap₂ (λ (g : Geometry) (N : ℕ). linked_pages (On.next g b) N p) (sym f.made) (sym f.count))
        (all_lie f.allowed s n f.made f.count b refl ((view2 b).directory_pages p) (λ q m. omega (arith, (real_page q m).0.1, f.count)))

    -- an entry of it lies in the image
    pub housed_inside : (at : ℕ) → Mem at ((view2 b).entries p) → at + 32 ≤ length b
    housed_inside at m =
        let o = (shelved2 k.formed.allowed).spot b p at m in
        o.inside (real_page o.page o.of).0 (sized2 k.formed.allowed b refl)
