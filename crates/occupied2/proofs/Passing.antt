-- Vacant entries of a page passed over leave of the row what it has behind them; so what is left of the rest of the row is left of the whole.
use mathlib.Core.Path.{◌≡◌, refl, sym, ap, subst, ◌∙◌}
use Prim.Native.Nat.{ℕ, zero, suc, ◌+◌, ◌-◌, ◌*◌, ◌≤◌, ◌<◌}
use native.Mathlib.Omega.{arith}
use native.Mathlib.Numerals.{add-one}
use mathlib.Core.Bool.{Bool, true, false, ◌&&◌, false≢true}
use mathlib.Core.List.{List, ◌∷◌, ◌++◌, map}
use Rattle.std.specs.Prelude.{if◌then◌else◌}
use Rattle.volume.specs.Lists.{count_from}
use Rattle.occupied2.specs.Passing.{past, number_from, Searching, four_free}

module _ (f : ℕ → Bool) (st : ℕ) where
  abbrev steps : (i m : ℕ) → List ℕ
  steps i m = map (λ j. st + 32 * j) (count_from i m)

  -- some are left from the first on that fails
  pub some_left : (ys : List ℕ) (i m e : ℕ) → i + m ≡ e → number_from f st i m < e
      → past f (steps i m ++ ys) ≡ steps (number_from f st i m) (e - number_from f st i m) ++ ys
  unfolding number_from past count_from
  some_left ys i zero e z h = absurd (omega arith)
  some_left ys i (suc m) e z h = go (f (st + 32 * i)) h (some_left ys (suc i) m e (omega arith))
    where
      go : (c : Bool) → (if c then number_from f st (suc i) m else i) < e
          → (number_from f st (suc i) m < e → past f (steps (suc i) m ++ ys) ≡ steps (number_from f st (suc i) m) (e - number_from f st (suc i) m) ++ ys)
          → (if c then past f (steps (suc i) m ++ ys) else (st + 32 * i) ∷ (steps (suc i) m ++ ys))
          ≡ steps (if c then number_from f st (suc i) m else i) (e - (if c then number_from f st (suc i) m else i)) ++ ys
      go true h below = below h
      go false h below = let l : suc m ≡ e - i = omega arith in ap (λ (k : ℕ). steps i k ++ ys) l

  -- or none
  pub none_left : (ys : List ℕ) (i m e : ℕ) → i + m ≡ e → e ≤ number_from f st i m → past f (steps i m ++ ys) ≡ past f ys
  unfolding number_from past count_from
  none_left ys i zero e z h = refl
  none_left ys i (suc m) e z h = go (f (st + 32 * i)) h (none_left ys (suc i) m e (omega arith))
    where
      go : (c : Bool) → e ≤ (if c then number_from f st (suc i) m else i)
          → (e ≤ number_from f st (suc i) m → past f (steps (suc i) m ++ ys) ≡ past f ys)
          → (if c then past f (steps (suc i) m ++ ys) else (st + 32 * i) ∷ (steps (suc i) m ++ ys)) ≡ past f ys
      go true h below = below h
      go false h below = absurd (omega arith)

-- ---- the search on one page

module _ {f : ℕ → Bool} {st number count k : ℕ} (o : Searching f st number count k) where
  pub number_next : k < count → f (st + 32 * k) ≡ true → Searching f st number count (k + 1)
  unfolding number_from
  number_next h t =
      let e : count - k ≡ suc (count - (k + 1)) = omega arith in
      record {
        low = omega (arith, o.low);
        high = omega arith;
        left = o.left ∙ ap (number_from f st k) e ∙ ap (λ (c : Bool). if c then number_from f st (suc k) (count - (k + 1)) else k) t
            ∙ ap (λ (j : ℕ). number_from f st j (count - (k + 1))) (sym (add-one k));
      }

  pub number_here : k < count → f (st + 32 * k) ≡ false → k ≡ number_from f st number (count - number)
  unfolding number_from
  number_here h t =
      let e : count - k ≡ suc (count - (k + 1)) = omega arith in
      sym (o.left ∙ ap (number_from f st k) e ∙ ap (λ (c : Bool). if c then number_from f st (suc k) (count - (k + 1)) else k) t)

  pub number_none : count ≤ k → count ≡ number_from f st number (count - number)
  unfolding number_from
  number_none h =
      let e : count - k ≡ 0 = omega arith in
      let all : k ≡ count = omega (arith, o.high) in
      sym (o.left ∙ ap (number_from f st k) e ∙ all)

-- four at once
and-true : (a c : Bool) → (a && c) ≡ true → (a ≡ true) × (c ≡ true)
and-true true c e = (refl, e)
and-true false c e = absurd (false≢true e)

pub number_four : {f : ℕ → Bool} {st number count k : ℕ} → Searching f st number count k → k + 4 ≤ count → four_free f (st + 32 * k) ≡ true
    → Searching f st number count (k + 4)
number_four {f} {st} {number} {count} {k} o h t =
    let all = and-true _ _ t in
    let three = and-true _ _ all.0 in
    let two = and-true _ _ three.0 in
    let e₁ : st + 32 * (k + 1) ≡ st + 32 * k + 32 = omega arith in
    let e₂ : st + 32 * (k + 1 + 1) ≡ st + 32 * k + 64 = omega arith in
    let e₃ : st + 32 * (k + 1 + 1 + 1) ≡ st + 32 * k + 96 = omega arith in
    let last = number_next (number_next (number_next (number_next o (omega arith) two.0) (omega arith) (ap f e₁ ∙ two.1)) (omega arith) (ap f e₂ ∙ three.1)) (omega arith) (ap f e₃ ∙ all.1) in
    let e : k + 1 + 1 + 1 + 1 ≡ k + 4 = omega arith in
    subst (Searching f st number count) e last
