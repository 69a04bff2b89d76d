-- A chain that has a page is lengthened at the link of its last one; with one page more that is what the definitions make of a directory.
use mathlib.Core.Path.{◌≡◌, sym, ap, ap₂, ◌∙◌, subst}
use Prim.Native.Nat.{ℕ, suc, ◌-◌, ◌≤◌}
use native.Mathlib.Omega.{arith}
use lib.ListN.{take}
use Rattle.volume.specs.Bytes.{Bytes}
use Rattle.volume.specs.Chain.{chain, beyond, linked}
use Rattle.volume.specs.Field.{Field}
use Rattle.volume.specs.Geometry as On
use Rattle.volume.specs.Geometry.{Geometry}
use Rattle.volume.proofs.Chains.{chain_last}
use Rattle.volume.proofs.Follow.{Inside}
use Rattle.volume.proofs.Growing.{Growing}
use Rattle.volume.proofs.Unzeroed.{ButFor}
use Rattle.model.specs.EffectOf.{lengthened}
use Rattle.model2.specs.Entry.{start_field}
use Rattle.model2.specs.Version2.{linked_pages, view2, layout2}
use Rattle.shape.specs.Geometry.{geometry_of}
use Rattle.shape.specs.declared.Shape.{Shape}
use Rattle.changes2.specs.Asked.{Lengthening}
use Rattle.changes2.proofs.Directories.{linked_some}

pub joint_is : (g : Geometry) (b : Bytes) (field : Field) (k p : ℕ) → 1 ≤ k
    → On.joint_of g field (chain (On.next g b) k p) ≡ g.link (beyond (On.next g b) (k - 1) p)
unfolding On.joint_of chain
joint_is g b field k p h =
    let e : k ≡ suc (k - 1) = omega arith in
    ap (λ (m : ℕ). On.joint_of g field (chain (On.next g b) m p)) e ∙ ap g.link (chain_last (On.next g b) (k - 1) p)

-- what is known of the joint is known of the cell that was found to be it
pub growing_at : {g : Geometry} {n k : ℕ} {f joint : Field} {b : Bytes} → f ≡ joint → Growing g n k joint b → Growing g n k f b
growing_at {g} {n} {k} {b = b} e r = subst (λ (x : Field). Growing g n k x b) (sym e) r

pub grown_at : (g : Geometry) (n k : ℕ) (b : Bytes) {f joint : Field} {c : Bytes} → f ≡ joint
    → ButFor g (take (k - 1) (On.gained g n k b)) (On.grown g n k f b) c → ButFor g (take (k - 1) (On.gained g n k b)) (On.grown g n k joint b) c
grown_at g n k b {c = c} e r = subst (λ (x : Field). ButFor g (take (k - 1) (On.gained g n k b)) (On.grown g n k x b) c) e r

-- as the code goes: h pages, and f the link of the last
module _ {s : Shape} {n p : ℕ} {b : Bytes} (l : Lengthening s n p b) {h : ℕ} (eh : h ≡ linked (On.next (geometry_of s) b) n p) where
  pub held_inside : (1 ≤ h) × Inside (geometry_of s) b h p
  held_inside = (
    omega (arith, eh, linked_some (On.next (geometry_of s) b) n p l.walk.some),
    subst (λ (k : ℕ). Inside (geometry_of s) b k p) (sym eh) l.walk.lie,
  )

  module _ {f : Field} (ef : f ≡ (geometry_of s).link (beyond (On.next (geometry_of s) b) (h - 1) p)) where
    at_last : f ≡ (geometry_of s).link (beyond (On.next (geometry_of s) b) (linked (On.next (geometry_of s) b) n p - 1) p)
    at_last = ef ∙ ap (λ (k : ℕ). (geometry_of s).link (beyond (On.next (geometry_of s) b) (k - 1) p)) eh

    pub length_growing : Growing (geometry_of s) n 1 f b
    length_growing = subst (λ (x : Field). Growing (geometry_of s) n 1 x b) (sym at_last) l.growing

    pub length_done : {r : Bytes} → r ≡ On.grown (geometry_of s) n 1 f b → r ≡ lengthened layout2 (view2 b) p
    unfolding lengthened
    length_done e =
        let next : ℕ → ℕ = On.next (geometry_of s) b in
        e ∙ ap (λ (x : Field). On.grown (geometry_of s) n 1 x b)
        (at_last ∙ sym (joint_is (geometry_of s) b (start_field 0) (linked next n p) p (linked_some next n p l.walk.some)))
        ∙ ap₂ (λ (g : Geometry) (N : ℕ). On.grown g N 1 (On.joint_of g (start_field 0) (linked_pages (On.next g b) N p)) b) l.formed.made l.formed.count
