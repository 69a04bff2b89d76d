-- The last condition of `accepted`, page by page: on a sound image each file's pages get rising neighbouring numbers exactly if the link of
-- each page of a file is 0 or leads to the page with the next number.
use mathlib.Core.Path.{◌≡◌, refl, sym, ap, ◌∙◌, subst}
use mathlib.Core.Logic.{◌⊎◌, inl, inr}
use Prim.Native.Nat.{ℕ, zero, suc, ◌-◌, ◌≤◌}
use native.Mathlib.Omega.{arith}
use mathlib.Core.List.{List, [], ◌∷◌, map}
use lib.ListN.{length, get_or}
use lib.Dec.{T}
use Rattle.volume.specs.Bytes.{same}
use Rattle.volume.specs.Lists.{count_from}
use Rattle.volume.specs.Chain.{chain, beyond}
use Rattle.volume.proofs.Occ.{Mem, mem_head, mem_tail, mem_cons}
use Rattle.volume.proofs.Tests.{same_true, same_refl}
use Rattle.moves.specs.Tidy.{neighbours}
use Rattle.audit.proofs.Owners.{length_count_from}

module _ (next to : ℕ → ℕ) where
  -- the link of page q is 0, or leads to the next number
  abbrev pub Linked : ℕ → Type 0
  Linked q = (next q ≡ 0) ⊎ (to (next q) ≡ suc (to q))

  pub chain_near : (k p : ℕ) → ((q : ℕ) → Mem q (chain next (suc k) p) → (1 ≤ q) × Linked q) → map to (chain next (suc k) p) ≡ count_from (to p) (suc k)
  unfolding chain count_from
  chain_near zero p h = refl
  chain_near (suc k) p h =
      let r = h p (mem_head p (chain next (suc k) (next p))) in
      let one : 1 ≤ next p = (h (next p) (mem_tail (next p) p (chain next (suc k) (next p)) (mem_head (next p) (chain next k (next (next p)))))).0 in
      let e : to (next p) ≡ suc (to p) = elim r.1 [ inl z ↦ absurd (omega (arith, z, one)) | inr e ↦ e ] in
      ap (λ (l : List ℕ). to p ∷ l) (chain_near k (next p) (λ q m. h q (mem_tail q p (chain next (suc k) (next p)) m)) ∙ ap (λ (n : ℕ). count_from n (suc k)) e)

  -- the other way: each page but the last leads to the next number
  pub near_chain : (k p : ℕ) → map to (chain next (suc k) p) ≡ count_from (to p) (suc k) → (q : ℕ) → Mem q (chain next (suc k) p)
      → (next q ≡ beyond next (suc k) p) ⊎ (to (next q) ≡ suc (to q))
  unfolding chain count_from beyond
  near_chain zero p e q m = elim (mem_cons q p [] m) [ inl u ↦ inl (ap next u) | inr k ↦ absurd (omega arith) ]
  near_chain (suc k) p e q m =
      let rest : map to (chain next (suc k) (next p)) ≡ count_from (suc (to p)) (suc k) = ap tail e in
      let first : to (next p) ≡ suc (to p) = ap (λ (l : List ℕ). get_or l 0 0) rest in
      elim (mem_cons q p (chain next (suc k) (next p)) m) [
        | inl u ↦ inr (ap (λ (x : ℕ). to (next x)) u ∙ first ∙ ap (λ (x : ℕ). suc (to x)) (sym u))
        | inr n ↦ near_chain k (next p) (rest ∙ ap (λ (x : ℕ). count_from x (suc k)) (sym first)) q n
      ]
    where
      tail : List ℕ → List ℕ
      tail [] = []
      tail (x ∷ xs) = xs

-- neighbours are the numbers counted from the first
pub neighbours_is : (q : ℕ) (qs : List ℕ) → T (neighbours (q ∷ qs)) → q ∷ qs ≡ count_from q (suc (length qs))
unfolding neighbours count_from
neighbours_is q qs h = ap (λ (l : List ℕ). q ∷ l) (same_true qs (count_from (suc q) (length qs)) h)

pub is_neighbours : (q k : ℕ) (qs : List ℕ) → q ∷ qs ≡ count_from q (suc k) → T (neighbours (q ∷ qs))
unfolding neighbours count_from
is_neighbours q k qs e =
    let t : qs ≡ count_from (suc q) k = ap tail e in
    let n : length qs ≡ k = ap length t ∙ length_count_from (suc q) k in
    subst (λ (l : List ℕ). T (same qs l)) (t ∙ ap (count_from (suc q)) (sym n)) (same_refl qs)
  where
    tail : List ℕ → List ℕ
    tail [] = []
    tail (x ∷ xs) = xs
