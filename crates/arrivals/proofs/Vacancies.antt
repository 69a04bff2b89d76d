-- A directory holds nothing exactly if all its entries are vacant, and is full exactly if none is: a row has one place for each entry and counts those that are
-- not free.
use mathlib.Core.Path.{◌≡◌, refl}
use Prim.Native.Nat.{ℕ, suc}
use native.Mathlib.Omega.{arith}
use mathlib.Core.Bool.{Bool, true, false, not, ◌&&◌}
use mathlib.Core.Option.{Option, none, some}
use mathlib.Core.List.{List, [], ◌∷◌}
use lib.Dec.{T, ltb}
use borrow.Author.Tests.{lt-ltb}
use Rattle.volume.specs.Lists.{all}
use Rattle.model.specs.Entry.{Entry, vacant, a_file, a_directory}
use Rattle.model.specs.View.{View}
use Rattle.model.specs.Tree.{Row, held, is_full}
use Rattle.model.specs.Image.{entry_row, row_of, row_at}
use Rattle.model.specs.EffectOf.{is_vacant}
use Rattle.view_laws.proofs.Making.{none_full, some_roomy}
use Rattle.arrivals.specs.Openings.{is_none, vacancy_in}

-- the test that a search makes of an entry
abbrev pub vacancy : View → ℕ → Bool
vacancy v at = is_vacant (v.entry_at at)

holds : (c : Bool) → T c → c ≡ true
holds true h = refl
holds false h = absurd h

fails : (c : Bool) → T (not c) → c ≡ false
fails true h = absurd h
fails false h = refl

module _ (v : View) (g : ℕ → Row) where
  row_holds : (ats : List ℕ) → ltb 0 (held (row_of v g ats)) ≡ not (all (vacancy v) ats)
  unfolding held row_of entry_row all is_vacant
  row_holds [] = refl
  row_holds (x ∷ xs) = go (v.entry_at x) (row_holds xs)
    where
      go : (y : Entry) → ltb 0 (held (row_of v g xs)) ≡ not (all (vacancy v) xs)
          → ltb 0 (held (entry_row v g y (row_of v g xs))) ≡ not (is_vacant y && all (vacancy v) xs)
      go vacant e = e
      go (a_file locked name date start size) e = lt-ltb 0 (suc (held (row_of v g xs))) (omega arith)
      go (a_directory name date start size) e = lt-ltb 0 (suc (held (row_of v g xs))) (omega arith)

module _ (d : ℕ) (v : View) (p : ℕ) where
  pub directory_holds : ltb 0 (held (row_at (suc d) v p)) ≡ not (all (vacancy v) (v.entries p))
  unfolding row_at
  directory_holds = row_holds v (row_at d v) (v.entries p)

  pub directory_full : is_full (row_at (suc d) v p) ≡ is_none (vacancy_in v p)
  unfolding is_none
  directory_full = go (vacancy_in v p) refl
    where
      go : (o : Option ℕ) → vacancy_in v p ≡ o → is_full (row_at (suc d) v p) ≡ is_none o
      go none e = holds (is_full (row_at (suc d) v p)) (none_full v d p e)
      go (some at) e = fails (is_full (row_at (suc d) v p)) (some_roomy v d p at e)
