-- A turn along a chain: what is left of it begins with the page at hand, and goes on from its link.
use mathlib.Core.Path.{◌≡◌, refl, sym, ap, ◌∙◌, subst}
use Prim.Native.Nat.{ℕ, suc, ◌+◌, ◌-◌, ◌≤◌, ◌<◌}
use native.Mathlib.Nat.{sub-zero}
use native.Mathlib.Omega.{arith}
use mathlib.Core.List.{List, ◌∷◌}
use lib.ListN.{length}
use Rattle.volume.specs.Bytes.{Bytes}
use Rattle.volume.specs.Chain.{chain, beyond}
use Rattle.volume.specs.Field.{Field}
use Rattle.volume.specs.Geometry.{Geometry, start, next}
use Rattle.volume.proofs.Occ.{Mem, mem_head, mem_tail}
use Rattle.volume.proofs.Fields.{place, wide}

-- every number of the list has the property
abbrev pub Each : (ℕ → Type 0) → List ℕ → Type 0
Each P xs = (q : ℕ) → Mem q xs → P q

-- i of k pages are done, p is at hand, and q is its link
module _ (next : ℕ → ℕ) (k i p q : ℕ) (h : i < k) (e : q ≡ next p) where
  left : k - i ≡ suc (k - (i + 1))
  left = omega arith

  pub chain_turn : chain next (k - i) p ≡ p ∷ chain next (k - (i + 1)) q
  unfolding chain
  chain_turn = ap (λ (n : ℕ). chain next n p) left ∙ ap (λ (r : ℕ). p ∷ chain next (k - (i + 1)) r) (sym e)

  pub beyond_turn : beyond next (k - i) p ≡ beyond next (k - (i + 1)) q
  unfolding beyond
  beyond_turn = ap (λ (n : ℕ). beyond next n p) left ∙ ap (beyond next (k - (i + 1))) (sym e)

  pub each_next : {P : ℕ → Type 0} → Each P (chain next (k - i) p) → Each P (chain next (k - (i + 1)) q)
  each_next u x m = u x (subst (Mem x) (sym chain_turn) (mem_tail x p (chain next (k - (i + 1)) q) m))

pub each_here : (next : ℕ → ℕ) (k i p : ℕ) {P : ℕ → Type 0} → i < k → Each P (chain next (k - i) p) → P p
each_here next k i p h u =
    u p (subst (Mem p) (sym (chain_turn next k i p (next p) h refl)) (mem_head p (chain next (k - (i + 1)) (next p))))

pub each_first : (next : ℕ → ℕ) (k p : ℕ) {P : ℕ → Type 0} → Each P (chain next k p) → Each P (chain next (k - 0) p)
each_first next k p u x m = u x (subst (λ (n : ℕ). Mem x (chain next n p)) (sub-zero k) m)

-- ---- what lies in an image

-- the bytes of a number
abbrev pub Lies : Field → Bytes → Type 0
Lies f b = place f + wide f ≤ length b

-- the bytes of page p
abbrev pub PageLies : Geometry → ℕ → Bytes → Type 0
PageLies g p b = start g p + g.size ≤ length b

-- the k pages from p on, each with its link
abbrev pub Inside : Geometry → Bytes → (k p : ℕ) → Type 0
Inside g b k p = Each (λ q. PageLies g q b × Lies (g.link q) b) (chain (next g b) k p)

-- ---- the page with an index

pub record Following (g : Geometry) (b : Bytes) (k p₀ i p : ℕ) : Type 0 where
  pub low : i ≤ k
  pub pages : Inside g b (k - i) p
  pub same : beyond (next g b) (k - i) p ≡ beyond (next g b) k p₀

module _ {g : Geometry} {b : Bytes} {k p₀ : ℕ} where
  pub following_first : Inside g b k p₀ → Following g b k p₀ 0 p₀
  following_first c = record {
    low = omega arith;
    pages = each_first (next g b) k p₀ c;
    same = ap (λ (n : ℕ). beyond (next g b) n p₀) (sub-zero k);
  }

  module _ {i p : ℕ} (r : Following g b k p₀ i p) where
    pub following_here : i < k → Lies (g.link p) b
    following_here h = (each_here (next g b) k i p h r.pages).1

    pub following_turn : i < k → {q : ℕ} → q ≡ next g b p → Following g b k p₀ (i + 1) q
    following_turn h {q} e = record {
      low = omega arith;
      pages = each_next (next g b) k i p q h e r.pages;
      same = sym (beyond_turn (next g b) k i p q h e) ∙ r.same;
    }

    pub following_last : k ≤ i → p ≡ beyond (next g b) k p₀
    unfolding beyond
    following_last h = let z : 0 ≡ k - i = omega arith in ap (λ (n : ℕ). beyond (next g b) n p) z ∙ r.same
