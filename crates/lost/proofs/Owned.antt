-- The pages of one byte of the bitmap: where all eight have their owner none is lost.
use mathlib.Core.Path.{◌≡◌, refl, sym, ap, ◌∙◌}
use mathlib.Core.Logic.{◌≢◌}
use Prim.Native.Nat.{ℕ, zero, suc, ◌+◌, ◌-◌, ◌*◌, ◌≤◌, ◌<◌, min, max}
use native.Mathlib.Omega.{arith}
use native.Mathlib.Decide.{dec_lt}
use mathlib.Core.Bool.{Bool, true, not, ◌&&◌, and-true, and_assoc}
use mathlib.Core.List.{List}
use lib.ListN.{length, get_or, take, drop}
use lib.Seq.{get_or-take, get_or-drop}
use lib.Dec.{eqb}
use borrow.Author.Tests.{ne_eqb}
use Rattle.volume.specs.Bytes.{Bytes}
use Rattle.volume.specs.Geometry.{Geometry}
use Rattle.model.specs.Judge.{Judged, clean, lost_or}
use Rattle.shape.specs.declared.Shape.{Shape}
use Rattle.shape.specs.Geometry.{geometry_of}
use Rattle.lost.specs.Searched.{Searched, owned_from}
use Rattle.lost.proofs.Lost.{lost_from, page_owned, none_lost}

-- ---- the loop: the answer so far is f, and page from + i comes next

pub none_yet : (marks : List ℕ) (from : ℕ) → owned_from marks from 8 ≡ owned_from marks (from + 0) 8
none_yet marks from = let e : from + 0 ≡ from = omega arith in ap (λ (p : ℕ). owned_from marks p 8) (sym e)

module _ (marks : List ℕ) (from i : ℕ) (f : Bool) (so_far : owned_from marks from 8 ≡ (f && owned_from marks (from + i) (8 - i))) where
  owned_on : i < 8 → owned_from marks from 8 ≡ ((f && not (eqb (get_or marks (from + i) 0) 0)) && owned_from marks (from + (i + 1)) (8 - (i + 1)))
  unfolding owned_from
  owned_on h =
      let e : 8 - i ≡ suc (8 - (i + 1)) = omega arith in
      let next : from + i + 1 ≡ from + (i + 1) = omega arith in
      so_far ∙ ap (λ (k : ℕ). f && owned_from marks (from + i) k) e
      ∙ ap (λ (p : ℕ). f && (not (eqb (get_or marks (from + i) 0) 0) && owned_from marks p (8 - (i + 1)))) next
      ∙ sym (and_assoc f (not (eqb (get_or marks (from + i) 0) 0)) (owned_from marks (from + (i + 1)) (8 - (i + 1))))

  -- where mark i of the eight was read
  pub owned_read : (k : ℕ) → i < 8 → i < k
      → owned_from marks from 8 ≡ ((f && not (eqb (get_or (take k (drop from marks)) i 0) 0)) && owned_from marks (from + (i + 1)) (8 - (i + 1)))
  owned_read k h l =
      owned_on h
      ∙ ap (λ (m : ℕ). (f && not (eqb m 0)) && owned_from marks (from + (i + 1)) (8 - (i + 1))) (sym (get_or-take k (drop from marks) i 0 l ∙ get_or-drop from marks i 0))

  pub owned_all : 8 ≤ i → f ≡ owned_from marks from 8
  unfolding owned_from
  owned_all h = let e : 8 - i ≡ 0 = omega arith in sym (so_far ∙ ap (λ (k : ℕ). f && owned_from marks (from + i) k) e ∙ and-true f)

-- ---- none of them is lost

next_owned : (x : ℕ) (r : Bool) → (not (eqb x 0) && r) ≡ true → (x ≢ 0) × (r ≡ true)
next_owned zero r e = let z : ◌≡◌ {A = ℕ} 0 1 = cc in absurd (omega arith)
next_owned (suc x) r e = (some, sym (ap (λ (t : Bool). not t && r) (ne_eqb (suc x) 0 some)) ∙ e)
  where
    some : suc x ≢ 0
    some z = absurd (omega (arith, z))

has_owner : (marks : List ℕ) (p k : ℕ) → owned_from marks p (suc k) ≡ true → (get_or marks p 0 ≢ 0) × (owned_from marks (p + 1) k ≡ true)
unfolding owned_from
has_owner marks p k e = next_owned (get_or marks p 0) (owned_from marks (p + 1) k) e

-- the later ones of some pages that have their owner have theirs
owned_behind : (marks : List ℕ) (i k p : ℕ) → owned_from marks p (i + k) ≡ true → owned_from marks (p + i) k ≡ true
owned_behind marks zero k p e =
    let here : p + 0 ≡ p = omega arith in
    let all : 0 + k ≡ k = omega arith in
    ap (λ (q : ℕ). owned_from marks q k) here ∙ ap (λ (n : ℕ). owned_from marks p n) (sym all) ∙ e
owned_behind marks (suc i) k p e =
    let here : p + suc i ≡ p + 1 + i = omega arith in
    let all : suc (i + k) ≡ suc i + k = omega arith in
    ap (λ (q : ℕ). owned_from marks q k) here
    ∙ owned_behind marks i k (p + 1) (has_owner marks p (i + k) (ap (λ (n : ℕ). owned_from marks p n) all ∙ e)).1

-- the k pages from p on have their owner, the search ends among them, and it has come to p
none_among : (g : Geometry) (b : Bytes) (marks : List ℕ) (k from to p : ℕ) → lost_from g b marks to from ≡ lost_from g b marks to p → owned_from marks p k ≡ true
    → to ≤ p + k → clean marks ≡ lost_or (clean marks) (lost_from g b marks to from)
none_among g b marks zero from to p so_far e h = none_lost g b marks from to p so_far (omega arith)
none_among g b marks (suc k) from to p so_far e h = elim (dec_lt p to) [
  | yes l ↦ let here = has_owner marks p k e in none_among g b marks k from to (p + 1) (page_owned g b marks from to p so_far l here.0) here.1 (omega arith)
  | no l ↦ none_lost g b marks from to p so_far (omega (arith, l))
]

module _ (b : Bytes) (s : Shape) (marks : List ℕ) (byte : ℕ) where
  -- of the eight only those behind the pages set aside are searched
  pub eight_owned : Searched b s marks → (r : Bool) → r ≡ owned_from marks (8 * byte) 8 → r ≡ true
      → clean marks ≡ lost_or (clean marks) (lost_from (geometry_of s) b marks (min (8 * byte + 8) (length marks)) (max s.aside (8 * byte)))
  eight_owned asked r e o =
      let low = max s.aside (8 * byte) in
      let left = max s.aside (8 * byte) - 8 * byte in
      let all : left + (8 - left) ≡ 8 = omega (arith, asked.low) in
      let here : 8 * byte + left ≡ low = omega arith in
      none_among (geometry_of s) b marks (8 - left) low _ low refl
      (ap (λ (p : ℕ). owned_from marks p (8 - left)) (sym here)
      ∙ owned_behind marks left (8 - left) (8 * byte) (ap (λ (k : ℕ). owned_from marks (8 * byte) k) all ∙ sym e ∙ o))
      (omega (arith, asked.low))

  -- else they are looked at one by one
  pub byte_searched : {from to : ℕ} → from ≡ max s.aside (8 * byte) → to ≡ min (8 * byte + 8) (length marks) → {j : Judged}
      → j ≡ lost_or (clean marks) (lost_from (geometry_of s) b marks to from)
      → j ≡ lost_or (clean marks) (lost_from (geometry_of s) b marks (min (8 * byte + 8) (length marks)) (max s.aside (8 * byte)))
  byte_searched low high e = rw (← low, ← high) e
