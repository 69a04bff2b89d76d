-- A cursor's next step: the next entry of its page, or the first of the page that follows, or the end. The row left begins with the entry at hand.
use mathlib.Core.Path.{◌≡◌, refl, sym, ap, ◌∙◌, subst}
use mathlib.Core.Logic.{◌≢◌}
use Prim.Native.Nat.{ℕ, suc, ◌+◌, ◌-◌, ◌*◌, ◌≤◌, ◌<◌}
use native.Mathlib.Nat.{sub-zero}
use native.Mathlib.Numerals.{add-one}
use native.Mathlib.Omega.{arith}
use mathlib.Core.Bool.{Bool, true, false}
use mathlib.Core.List.{List, [], ◌∷◌, ◌++◌, map, flat_map}
use lib.Dec.{eqb}
use borrow.Author.Tests.{eq-eqb, ne_eqb}
use Rattle.volume.specs.Bytes.{Bytes}
use Rattle.std.specs.Prelude.{if◌then◌else◌}
use Rattle.volume.specs.Lists.{count_from}
use Rattle.volume.specs.Chain.{chain, linked}
use Rattle.volume.specs.Geometry as On
use Rattle.volume.proofs.Occ.{mem_tail}
use Rattle.model2.specs.Version2.{linked_pages, entry_count, entries_start, entries_on}
use Rattle.shape.specs.declared.Shape.{Shape}
use Rattle.shape.specs.Geometry.{geometry_of}
use Rattle.cursor2.specs.Row.{behind, entries_from, AllLie}

-- ---- pages

module _ (next : ℕ → ℕ) where
  -- a directory's pages: the first, and those behind it
  pub pages_first : (left p : ℕ) → linked_pages next (suc left) p ≡ p ∷ behind next left p
  unfolding behind linked chain
  pages_first left p = go (eqb (next p) 0)
    where
      go : (c : Bool) → chain next (if c then 1 else suc (linked next left (next p))) p ≡ p ∷ (if c then [] else chain next (linked next left (next p)) (next p))
      go true = refl
      go false = refl

  pub behind_end : (left p : ℕ) → next p ≡ 0 → behind next left p ≡ []
  unfolding behind
  behind_end left p e = rw (eq-eqb (next p) 0 e)

  pub behind_none : (left p : ℕ) → left ≡ 0 → behind next left p ≡ []
  unfolding behind linked chain
  behind_none left p z = rw z (go (eqb (next p) 0))
    where
      go : (c : Bool) → ◌≡◌ {A = List ℕ} (if◌then◌else◌ {A = List ℕ} c [] []) []
      go true = refl
      go false = refl

  pub behind_more : (left p q : ℕ) → left ≢ 0 → q ≡ next p → q ≢ 0 → behind next left p ≡ q ∷ behind next (left - 1) q
  unfolding behind
  behind_more left p q z e ne =
      let l : left ≡ suc (left - 1) = omega arith in
      ap (λ (c : Bool). if c then [] else linked_pages next left (next p)) (ne_eqb (next p) 0 (λ z. ne (e ∙ z)))
      ∙ ap (linked_pages next left) (sym e) ∙ ap (λ (k : ℕ). linked_pages next k q) l ∙ pages_first (left - 1) q

-- ---- entries

module _ (size n : ℕ) (next : ℕ → ℕ) where
  abbrev steps_from : (p i : ℕ) → List ℕ
  steps_from p i = map (λ j. entries_start size n p + 32 * j) (count_from i (entry_count size n p - i))

  steps_then : (p i : ℕ) → i < entry_count size n p → steps_from p i ≡ (entries_start size n p + 32 * i) ∷ steps_from p (i + 1)
  unfolding count_from
  steps_then p i h =
      let e : entry_count size n p - i ≡ suc (entry_count size n p - (i + 1)) = omega arith in
      ap (λ (m : ℕ). map (λ j. entries_start size n p + 32 * j) (count_from i m)) e
      ∙ ap (λ (k : ℕ). (entries_start size n p + 32 * i) ∷ map (λ j. entries_start size n p + 32 * j) (count_from k (entry_count size n p - (i + 1)))) (sym (add-one i))

  no_steps : (p i : ℕ) → entry_count size n p ≤ i → steps_from p i ≡ []
  unfolding count_from
  no_steps p i h = let e : entry_count size n p - i ≡ 0 = omega arith in ap (λ (m : ℕ). map (λ j. entries_start size n p + 32 * j) (count_from i m)) e

  all_steps : (p : ℕ) → entries_on size n p ≡ steps_from p 0
  unfolding entries_on
  all_steps p = ap (λ (m : ℕ). map (λ j. entries_start size n p + 32 * j) (count_from 0 m)) (sym (sub-zero (entry_count size n p)))

  -- the row of a directory, from its first entry on
  pub row_first : (p : ℕ) → 1 ≤ n → entries_from size n next p 0 (n - 1) ≡ flat_map (entries_on size n) (linked_pages next n p)
  unfolding entries_from flat_map
  row_first p h =
      let l : n ≡ suc (n - 1) = omega arith in
      sym (ap (λ (k : ℕ). flat_map (entries_on size n) (linked_pages next k p)) l ∙ ap (flat_map (entries_on size n)) (pages_first next (n - 1) p)
      ∙ ap (λ (xs : List ℕ). xs ++ flat_map (entries_on size n) (behind next (n - 1) p)) (all_steps p))

  module _ (p i : ℕ) (h : i < entry_count size n p) where
    -- the entry at hand, and then the others of its page
    pub turn_same : (left : ℕ) → entries_from size n next p i left ≡ (entries_start size n p + 32 * i) ∷ entries_from size n next p (i + 1) left
    unfolding entries_from
    turn_same left = ap (λ (xs : List ℕ). xs ++ flat_map (entries_on size n) (behind next left p)) (steps_then p i h)

    module _ (last : entry_count size n p ≤ i + 1) where
      over : (left : ℕ) → entries_from size n next p (i + 1) left ≡ flat_map (entries_on size n) (behind next left p)
      unfolding entries_from
      over left = ap (λ (xs : List ℕ). xs ++ flat_map (entries_on size n) (behind next left p)) (no_steps p (i + 1) last)

      -- none behind the last entry of the last page
      pub turn_end : (left : ℕ) → behind next left p ≡ [] → entries_from size n next p i left ≡ (entries_start size n p + 32 * i) ∷ []
      unfolding flat_map
      turn_end left e = turn_same left ∙ ap (λ (xs : List ℕ). (entries_start size n p + 32 * i) ∷ xs) (over left ∙ ap (flat_map (entries_on size n)) e)

      -- the first entry of the next page
      pub turn_next : (left q : ℕ) → left ≢ 0 → q ≡ next p → q ≢ 0
          → entries_from size n next p i left ≡ (entries_start size n p + 32 * i) ∷ entries_from size n next q 0 (left - 1)
      unfolding flat_map entries_from
      turn_next left q z e ne =
          turn_same left
          ∙ ap (λ (xs : List ℕ). (entries_start size n p + 32 * i) ∷ xs) (over left ∙ ap (flat_map (entries_on size n)) (behind_more next left p q z e ne)
          ∙ ap (λ (xs : List ℕ). xs ++ flat_map (entries_on size n) (behind next (left - 1) q)) (all_steps q))

-- ---- the pages lie in the image

module _ (s : Shape) (b : Bytes) where
  pub pages_lie : (n p : ℕ) → 1 ≤ n → AllLie s b (linked_pages (On.next (geometry_of s) b) n p) → AllLie s b (p ∷ behind (On.next (geometry_of s) b) (n - 1) p)
  pages_lie n p h u =
      let l : n ≡ suc (n - 1) = omega arith in
      subst (AllLie s b) (pages_first (On.next (geometry_of s) b) (n - 1) p) (subst (λ (k : ℕ). AllLie s b (linked_pages (On.next (geometry_of s) b) k p)) l u)

  pub pages_next : (left p q : ℕ) → left ≢ 0 → q ≡ On.next (geometry_of s) b p → q ≢ 0 → AllLie s b (p ∷ behind (On.next (geometry_of s) b) left p)
      → AllLie s b (q ∷ behind (On.next (geometry_of s) b) (left - 1) q)
  pages_next left p q z e ne u =
      subst (AllLie s b) (behind_more (On.next (geometry_of s) b) left p q z e ne) (λ x m. u x (mem_tail x p (behind (On.next (geometry_of s) b) left p) m))
