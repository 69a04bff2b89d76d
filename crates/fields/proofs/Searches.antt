-- A search over the entries of a directory, one a turn: what is left of the directory from entry i on decides, once those before it have passed.
use mathlib.Core.Path.{◌≡◌, sym, ap, ◌∙◌}
use Prim.Native.Nat.{ℕ, suc, ◌+◌, ◌*◌, ◌-◌, ◌≤◌, ◌<◌}
use native.Mathlib.Nat.{sub-zero}
use native.Mathlib.Numerals.{add-one}
use native.Mathlib.Omega.{arith}
use mathlib.Core.Bool.{Bool, true, false}
use mathlib.Core.Option.{none, some}
use mathlib.Core.List.{List, [], ◌∷◌, map}
use Rattle.volume.specs.Lists.{all, count_from, first}
use Rattle.model.specs.Entry.{entry_count, entries_start, entries}

-- the entries of the directory on page p from entry i on
abbrev pub entries_from : (p i : ℕ) → List ℕ
entries_from p i = map (λ j. entries_start p + 32 * j) (count_from i (entry_count p - i))

module _ (p : ℕ) where
  pub all_entries : entries p ≡ entries_from p 0
  unfolding entries
  all_entries = rw (sub-zero (entry_count p))

  pub entry_then : (i : ℕ) → i < entry_count p → entries_from p i ≡ (entries_start p + 32 * i) ∷ entries_from p (i + 1)
  unfolding count_from
  entry_then i h = let e : entry_count p - i ≡ suc (entry_count p - (i + 1)) = omega arith in rw (e, add-one)

  pub no_entries : (i : ℕ) → entry_count p ≤ i → entries_from p i ≡ []
  unfolding count_from
  no_entries i h = let e : entry_count p - i ≡ 0 = omega arith in rw e

-- i entries of the directory on page p have passed, and of those left is the first that the test takes
pub record Sought (f : ℕ → Bool) (p i : ℕ) : Type 0 where
  pub low : i ≤ entry_count p
  pub left : first f (entries p) ≡ first f (entries_from p i)

-- i entries have passed the test, so all do if those left do
pub record Tested (f : ℕ → Bool) (p i : ℕ) : Type 0 where
  pub low : i ≤ entry_count p
  pub left : all f (entries p) ≡ all f (entries_from p i)

module _ {f : ℕ → Bool} {p : ℕ} where
  pub sought_first : Sought f p 0
  sought_first = record { low = omega arith; left = ap (first f) (all_entries p) }

  pub tested_first : Tested f p 0
  tested_first = record { low = omega arith; left = ap (all f) (all_entries p) }

  module _ {i : ℕ} (s : Sought f p i) where
    pub sought_here : i < entry_count p → f (entries_start p + 32 * i) ≡ true → some (entries_start p + 32 * i) ≡ first f (entries p)
    unfolding first
    sought_here h e = sym (s.left ∙ ap (first f) (entry_then p i h) ∙ rw e)

    pub sought_next : i < entry_count p → f (entries_start p + 32 * i) ≡ false → Sought f p (i + 1)
    unfolding first
    sought_next h e = record { low = omega arith; left = s.left ∙ ap (first f) (entry_then p i h) ∙ rw e }

    pub sought_none : entry_count p ≤ i → none ≡ first f (entries p)
    unfolding first
    sought_none h = sym (s.left ∙ ap (first f) (no_entries p i h))

  module _ {i : ℕ} (s : Tested f p i) where
    pub tested_failed : i < entry_count p → f (entries_start p + 32 * i) ≡ false → false ≡ all f (entries p)
    unfolding all
    tested_failed h e = sym (s.left ∙ ap (all f) (entry_then p i h) ∙ rw e)

    pub tested_next : i < entry_count p → f (entries_start p + 32 * i) ≡ true → Tested f p (i + 1)
    unfolding all
    tested_next h e = record { low = omega arith; left = s.left ∙ ap (all f) (entry_then p i h) ∙ rw e }

    pub tested_all : entry_count p ≤ i → true ≡ all f (entries p)
    unfolding all
    tested_all h = sym (s.left ∙ ap (all f) (no_entries p i h))
