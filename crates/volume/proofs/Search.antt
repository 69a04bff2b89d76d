-- The search for the lowest free page, from any page on: a page that is taken is passed over, and so is a run of them.
use mathlib.Core.Path.{◌≡◌, sym, ap, ◌∙◌}
use mathlib.Core.Logic.{◌≢◌}
use Prim.Native.Nat.{ℕ, zero, suc, ◌+◌, ◌-◌, ◌≤◌, ◌<◌}
use native.Mathlib.Nat.{sub-zero, add-zero}
use native.Mathlib.Numerals.{add-one}
use native.Mathlib.Omega.{arith}
use native.Mathlib.Decide.{dec_lt}
use mathlib.Core.Option.{get_or}
use borrow.Author.Tests.{eq-eqb, ne_eqb}
use Rattle.volume.specs.Bytes.{Bytes}
use Rattle.volume.specs.Lists.{first, count_from}
use Rattle.volume.specs.Geometry.{Geometry, page_bit, is_free, lowest_free}

module _ (g : Geometry) (b : Bytes) where
  -- the lowest free page of n from p on, or n for none
  pub lowest_from : (n p : ℕ) → ℕ
  lowest_from n p = get_or (first (is_free g b) (count_from p (n - p))) n

  pub from_start : (n : ℕ) → lowest_from n 0 ≡ lowest_free g n b
  unfolding lowest_from lowest_free
  from_start n = ap (λ (m : ℕ). get_or (first (is_free g b) (count_from 0 m)) n) (sub-zero n)

  pub from_free : (n p : ℕ) → p < n → page_bit g b p ≡ 0 → lowest_from n p ≡ p
  unfolding lowest_from first count_from
  from_free n p h e = let w : n - p ≡ suc (n - (p + 1)) = omega arith in rw (w, eq-eqb (page_bit g b p) 0 e)

  from_taken : (n p : ℕ) → p < n → page_bit g b p ≢ 0 → lowest_from n (p + 1) ≡ lowest_from n p
  unfolding lowest_from first count_from
  from_taken n p h ne = let w : n - p ≡ suc (n - (p + 1)) = omega arith in rw (w, ne_eqb (page_bit g b p) 0 ne, add-one p)

  pub from_end : (n p : ℕ) → n ≤ p → lowest_from n p ≡ n
  unfolding lowest_from first count_from
  from_end n p h = let w : n - p ≡ 0 = omega arith in rw w

  -- k pages in a row that are taken, or past the end
  pub from_run : (k n p : ℕ) → ((j : ℕ) → j < k → page_bit g b (p + j) ≡ 1) → lowest_from n (p + k) ≡ lowest_from n p
  from_run zero n p h = ap (lowest_from n) (add-zero p)
  from_run (suc k) n p h =
      let before = from_run k n p (λ j l. h j (omega arith)) in
      let next : p + suc k ≡ (p + k) + 1 = omega arith in
      let taken : page_bit g b (p + k) ≡ 1 = h k (omega arith) in
      ap (lowest_from n) next ∙ elim (dec_lt (p + k) n) [
        | yes l ↦ from_taken n (p + k) l (λ z. absurd (omega (arith, z, taken)))
        | no l ↦ from_end n ((p + k) + 1) (omega (arith, l)) ∙ sym (from_end n (p + k) (omega (arith, l)))
      ] ∙ before
