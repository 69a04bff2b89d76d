-- The joint of a chain is the link of its last page, which is the page with the index k − 1, or the field of the start page if there is none.
use mathlib.Core.Path.{◌≡◌, sym, ap, ◌∙◌, subst}
use Prim.Native.Nat.{ℕ, suc, ◌+◌, ◌*◌, ◌-◌, ◌≤◌, ◌<◌}
use native.Mathlib.Omega.{arith}
use Rattle.volume.specs.Bytes.{Bytes}
use Rattle.volume.specs.Field.{Field, byte}
use Rattle.volume.specs.Chain.{chain, beyond}
use Rattle.volume.specs.Geometry.{joint_of}
use Rattle.volume.proofs.Occ.{occ, Mem, occ_append, mem_head, under_mem}
use Rattle.volume.proofs.Chains.{chain_append, chain_last}
use Rattle.model.specs.Layout.{version1, page_size, page_count, link}
use Rattle.chains.specs.Asked.{Inside}

module _ (b : Bytes) (start k : ℕ) where
  pub joint_none : (entry : Field) → k ≡ 0 → entry ≡ joint_of version1 entry (chain (link b) k start)
  unfolding chain joint_of
  joint_none entry e = sym (ap (λ (m : ℕ). joint_of version1 entry (chain (link b) m start)) e)

  pub joint_last : (entry : Field) {p r : ℕ} → (k ≡ 0 → ⊥) → p ≡ beyond (link b) (k - 1) start → r ≡ page_size * p → byte r ≡ joint_of version1 entry (chain (link b) k start)
  unfolding chain joint_of
  joint_last entry h e is =
      let one_more : k ≡ suc (k - 1) = omega arith in
      ap byte is ∙ ap (λ (q : ℕ). byte (page_size * q)) (e ∙ sym (chain_last (link b) (k - 1) start))
      ∙ sym (ap (λ (m : ℕ). joint_of version1 entry (chain (link b) m start)) one_more)

  -- the last page lies in the image with those before it
  module _ (inside : Inside b k start) where
    parts : (i q : ℕ) → i ≤ k → occ q (chain (link b) k start) ≡ occ q (chain (link b) i start) + occ q (chain (link b) (k - i) (beyond (link b) i start))
    parts i q h =
        let e : k ≡ i + (k - i) = omega arith in
        ap (λ (m : ℕ). occ q (chain (link b) m start)) e ∙ ap (occ q) (chain_append (link b) i (k - i) start) ∙ occ_append q (chain (link b) i start) (chain (link b) (k - i) (beyond (link b) i start))

    pub inside_before : (k ≡ 0 → ⊥) → Inside b (k - 1) start
    inside_before h q l = omega (arith, inside q l, parts (k - 1) q (omega arith))

    pub inside_at : {p : ℕ} → (k ≡ 0 → ⊥) → p ≡ beyond (link b) (k - 1) start → p < page_count b
    unfolding chain
    inside_at {p} h e =
        let i : ℕ = k - 1 in
        let q : ℕ = beyond (link b) i start in
        let m : k - i ≡ suc (k - i - 1) = omega arith in
        let here : Mem q (chain (link b) (k - i) q) = subst (λ (n : ℕ). Mem q (chain (link b) n q)) (sym m) (mem_head q (chain (link b) (k - i - 1) (link b q))) in
        omega (arith, e, under_mem (page_count b) (chain (link b) k start) inside q (omega (arith, here, parts i q (omega arith))))
