-- The marks page by page, and the count.
use mathlib.Core.Path.{◌≡◌, refl, sym, ap, ◌∙◌}
use Prim.Native.Nat.{ℕ, zero, suc, ◌+◌, ◌-◌, ◌≤◌, ◌<◌}
use native.Mathlib.Omega.{arith}
use native.Mathlib.Numerals.{add-one}
use mathlib.Core.Bool.{Bool, true, false, not, ◌&&◌}
use mathlib.Core.List.{List}
use lib.ListN.{get_or}
use lib.Dec.{eqb, eqb-suc-zero}
use mir.Val.{bool_byte}
use Rattle.volume.specs.Lists.{all, count_from, up_to}
use Rattle.agreement.specs.Marked.{nobodies}
use Rattle.claims.proofs.Claims.{told, untold}

-- the pages from p on
unfoldable pub all_from : (ℕ → Bool) → (n p : ℕ) → Bool
all_from f n p = all f (count_from p (n - p))

module _ (f : ℕ → Bool) (n : ℕ) where
  pub all_first : {m : ℕ} → n ≡ m → all f (up_to m) ≡ all_from f n 0
  unfolding all_from
  all_first {m} s = let e : m ≡ n - 0 = omega arith in ap (λ (k : ℕ). all f (count_from 0 k)) e

  all_next : (p : ℕ) → p < n → all_from f n p ≡ (f p && all_from f n (p + 1))
  unfolding all_from all count_from
  all_next p l = let e : n - p ≡ suc (n - (p + 1)) = omega arith in rw (e, add-one p)

  all_end : (p : ℕ) → n ≤ p → all_from f n p ≡ true
  unfolding all_from all count_from
  all_end p l = let e : n - p ≡ 0 = omega arith in rw e

-- as the code goes: v is what all pages give, and r the answer for page p
module _ (f : ℕ → Bool) (n p : ℕ) {v : Bool} (is : v ≡ all_from f n p) where
  module _ (l : p < n) {r : Bool} (e : r ≡ f p) where
    pub all_stop : not r ≡ true → false ≡ v
    all_stop h = sym (is ∙ all_next f n p l ∙ rw (untold e h))

    pub all_go : not r ≡ false → v ≡ all_from f n (p + 1)
    all_go h = is ∙ all_next f n p l ∙ rw (told e h)

  pub all_done : n ≤ p → true ≡ v
  all_done l = sym (is ∙ all_end f n p l)

pub nobodies_next : (row : List ℕ) (p : ℕ) → nobodies row (p + 1) ≡ nobodies row p + (1 - get_or row p 0)
unfolding nobodies
nobodies_next row p = rw (add-one p)

-- a turn of the count: 1 if nobody owns the page
pub nobody : (owner : ℕ) → bool_byte (eqb owner 0) ≡ 1 - owner
nobody zero = refl
nobody (suc k) = let e : 1 - suc k ≡ 0 = omega arith in ap bool_byte (eqb-suc-zero k) ∙ sym e
