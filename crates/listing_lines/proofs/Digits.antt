-- A number's digits, one at a time from the last.
use mathlib.Core.Path.{◌≡◌, refl, sym, ap}
use mathlib.Core.Logic.{◌≢◌}
use Prim.Native.Nat.{ℕ, zero, suc, ◌+◌, ◌-◌, ◌/◌, ◌%◌, ◌≤◌, ◌<◌}
use native.Mathlib.Omega.{arith}
use mathlib.Core.List.{[], ◌∷◌, ◌++◌}
use borrow.Author.Tests.{lt-ltb, le-ltb}
use Rattle.model.specs.Listing.{digits}
use Rattle.listing_lines.specs.Window.{Window, poured}
use Rattle.listing_lines.proofs.Windows.{poured_nil, poured_next}

digits_none : (k n : ℕ) → k ≡ 0 → digits k n ≡ []
unfolding digits
digits_none zero n e = refl
digits_none (suc k) n e = absurd (omega arith)

digits_one : (k n : ℕ) → k ≢ 0 → n < 10 → digits k n ≡ (48 + n % 10) ∷ []
unfolding digits
digits_one zero n e h = absurd (e refl)
digits_one (suc k) n e h =
    let d : 48 + n ≡ 48 + n % 10 = omega arith in
    rw (lt-ltb n 10 h) (ap (λ (x : ℕ). x ∷ []) d)

digits_more : (k n : ℕ) → k ≢ 0 → 10 ≤ n → digits k n ≡ digits (k - 1) (n / 10) ++ ((48 + n % 10) ∷ [])
unfolding digits
digits_more zero n e h = absurd (e refl)
digits_more (suc k) n e h =
    let d : k ≡ suc k - 1 = omega arith in
    rw (le-ltb n 10 h) (ap (λ (x : ℕ). digits x (n / 10) ++ ((48 + n % 10) ∷ [])) d)

-- ---- the digits poured into a window

module _ (k n : ℕ) (w : Window) where
  pub poured_none : k ≡ 0 → w ≡ poured (digits k n) w
  poured_none e = rw (digits_none k n e) (sym (poured_nil w))

  module _ (ne : k ≢ 0) {w₁ : Window} where
    pub poured_one : n < 10 → w₁ ≡ poured ((48 + n % 10) ∷ []) w → w₁ ≡ poured (digits k n) w
    poured_one h e = rw (digits_one k n ne h) e

    pub poured_more : 10 ≤ n → w₁ ≡ poured (digits (k - 1) (n / 10)) w → {w₂ : Window} → w₂ ≡ poured ((48 + n % 10) ∷ []) w₁ → w₂ ≡ poured (digits k n) w
    poured_more h e f = rw (digits_more k n ne h) (poured_next (digits (k - 1) (n / 10)) ((48 + n % 10) ∷ []) w e f)
