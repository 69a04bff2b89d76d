-- Chains of pages: the pages and the end hang on the links of those pages alone, so a chain is cut, joined and lengthened as a list.
use mathlib.Core.Path.{◌≡◌, refl, sym, ap, ap₂, ◌∙◌}
use mathlib.Core.Logic.{◌≢◌}
use Prim.Native.Nat.{ℕ, zero, suc, ◌+◌, ◌≤◌}
use native.Mathlib.Nat.{zero-add, suc-add, add-suc}
use native.Mathlib.Omega.{arith}
use mathlib.Core.List.{List, [], ◌∷◌, ◌++◌, append_assoc}
use lib.ListN.{length}
use Rattle.volume.specs.Lists.{last_or}
use Rattle.volume.specs.Chain.{chain, beyond}
use Rattle.volume.proofs.Occ.{hit_refl, occ, Nodup, occ_append, mem_head, mem_tail}

-- the links of its pages make a chain
pub chain_frame : (next next' : ℕ → ℕ) (k p : ℕ) → ((q : ℕ) → 1 ≤ occ q (chain next k p) → next q ≡ next' q)
    → (chain next k p ≡ chain next' k p) × (beyond next k p ≡ beyond next' k p)
unfolding chain beyond
chain_frame next next' zero p h = (refl, refl)
chain_frame next next' (suc k) p h =
    let e : next p ≡ next' p = h p (mem_head p (chain next k (next p))) in
    let r = chain_frame next next' k (next p) (λ q m. h q (mem_tail q p (chain next k (next p)) m)) in
    (ap {B = List ℕ} (λ ps. p ∷ ps) (r.0 ∙ ap (chain next' k) e), r.1 ∙ ap (beyond next' k) e)

module _ (next : ℕ → ℕ) where
  pub chain_append : (j k p : ℕ) → chain next (j + k) p ≡ chain next j p ++ chain next k (beyond next j p)
  unfolding chain beyond
  chain_append zero k p = ap (λ (n : ℕ). chain next n p) (zero-add k)
  chain_append (suc j) k p = ap (λ (n : ℕ). chain next n p) (suc-add j k) ∙ ap {B = List ℕ} (λ ps. p ∷ ps) (chain_append j k (next p))

  pub chain_length : (k p : ℕ) → length (chain next k p) ≡ k
  unfolding chain
  chain_length zero p = refl
  chain_length (suc k) p = ap suc (chain_length k (next p))

  pub beyond_suc : (j p : ℕ) → beyond next (suc j) p ≡ next (beyond next j p)
  unfolding beyond
  beyond_suc zero p = refl
  beyond_suc (suc j) p = beyond_suc j (next p)

  pub beyond_add : (j k p : ℕ) → beyond next (j + k) p ≡ beyond next k (beyond next j p)
  unfolding beyond
  beyond_add zero k p = ap (λ (n : ℕ). beyond next n p) (zero-add k)
  beyond_add (suc j) k p = ap (λ (n : ℕ). beyond next n p) (suc-add j k) ∙ beyond_add j k (next p)

  -- ---- the last page

  pub chain_last : (j p : ℕ) → last_or p (chain next j (next p)) ≡ beyond next j p
  unfolding chain beyond last_or
  chain_last zero p = refl
  chain_last (suc j) p = chain_last j (next p)

  -- the pages before the last, and then the last
  pub chain_snoc : (j p : ℕ) → chain next (suc j) p ≡ chain next j p ++ (beyond next j p ∷ [])
  unfolding chain
  chain_snoc j p = let e : suc j ≡ j + 1 = omega arith in ap (λ (n : ℕ). chain next n p) e ∙ chain_append j 1 p

  occ_snoc : (j p q : ℕ) → occ q (chain next (suc j) p) ≡ occ q (chain next j p) + occ q (beyond next j p ∷ [])
  occ_snoc j p q = ap (occ q) (chain_snoc j p) ∙ occ_append q (chain next j p) (beyond next j p ∷ [])

  pub last_in : (j p : ℕ) → 1 ≤ occ (beyond next j p) (chain next (suc j) p)
  last_in j p = omega (arith, occ_snoc j p (beyond next j p), hit_refl (beyond next j p))

  -- the last page is none of those before it
  init_apart : (j p q : ℕ) → Nodup (chain next (suc j) p) → 1 ≤ occ q (chain next j p) → q ≢ beyond next j p
  init_apart j p q d m e = omega (arith, d q, occ_snoc j p q, ap (λ (x : ℕ). occ q (x ∷ [])) e, hit_refl q)

-- links that agree but at the last page, which leads on to the pages qs
pub chain_longer : (next next' : ℕ → ℕ) (j k p : ℕ) (qs : List ℕ)
    → Nodup (chain next (suc j) p)
    → ((q : ℕ) → 1 ≤ occ q (chain next (suc j) p) → q ≢ beyond next j p → next' q ≡ next q)
    → chain next' k (next' (beyond next j p)) ≡ qs → beyond next' k (next' (beyond next j p)) ≡ 0
    → (chain next' (suc j + k) p ≡ chain next (suc j) p ++ qs) × (beyond next' (suc j + k) p ≡ 0)
unfolding chain beyond
chain_longer next next' j k p qs d h e z =
    let m : ℕ = beyond next j p in
    let f = chain_frame next next' j p (λ q i. sym (h q (omega (arith, occ_snoc next j p q)) (init_apart next j p q d i))) in
    let n : suc j + k ≡ j + suc k = suc-add j k ∙ sym (add-suc j k) in (
      ap (λ (x : ℕ). chain next' x p) n ∙ chain_append next' j (suc k) p
          ∙ ap₂ {C = List ℕ} (λ (r : List ℕ) (x : ℕ). r ++ chain next' (suc k) x) (sym f.0) (sym f.1)
          ∙ ap (λ (r : List ℕ). chain next j p ++ (m ∷ r)) e
          ∙ sym (append_assoc (chain next j p) (m ∷ []) qs)
          ∙ ap (λ (r : List ℕ). r ++ qs) (sym (chain_snoc next j p)),
      ap (λ (x : ℕ). beyond next' x p) n ∙ beyond_add next' j (suc k) p ∙ ap (beyond next' (suc k)) (sym f.1) ∙ z,
    )
