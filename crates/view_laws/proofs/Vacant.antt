-- A directory whose entries are all vacant: its row is empty, it owns nothing, and it is good.
use mathlib.Core.Path.{◌≡◌, refl, sym, ap, ◌∙◌, subst}
use Prim.Native.Nat.{ℕ, suc}
use mathlib.Core.Bool.{true, not}
use mathlib.Core.List.{List, [], ◌∷◌, ◌++◌, flat_map}
use lib.ListN.{length}
use lib.Dec.{T}
use Rattle.volume.proofs.Occ.{Mem, Nodup, mem_head, mem_tail}
use Rattle.model.specs.Entry.{Entry, vacant}
use Rattle.model.specs.View.{View}
use Rattle.model.specs.Sound.{good_entry, same_name, in_directory, good_directory, owned}
use Rattle.model.specs.Tree.{Row, free, empty_row}
use Rattle.model.specs.Image.{entry_row, row_of, row_at}
use Rattle.view_laws.proofs.Owns.{own, owned_entries}
use Rattle.view_laws.proofs.Level.{good_join}

module _ (v : View) where
  pub row_of_vacant : (g : ℕ → Row) (ats : List ℕ) → ((x : ℕ) → Mem x ats → v.entry_at x ≡ vacant) → row_of v g ats ≡ empty_row (length ats)
  unfolding row_of entry_row empty_row
  row_of_vacant g [] h = refl
  row_of_vacant g (x ∷ xs) h =
      ap (λ (e : Entry). entry_row v g e (row_of v g xs)) (h x (mem_head x xs)) ∙ ap (λ (r : Row). free r) (row_of_vacant g xs (λ y m. h y (mem_tail y x xs m)))

  pub own_of_vacant : (d : ℕ) (ats : List ℕ) → ((x : ℕ) → Mem x ats → v.entry_at x ≡ vacant) → flat_map (λ x. own d v (v.entry_at x)) ats ≡ []
  unfolding flat_map own
  own_of_vacant d [] h = refl
  own_of_vacant d (x ∷ xs) h =
      ap (λ (e : Entry). own d v e ++ flat_map (λ y. own d v (v.entry_at y)) xs) (h x (mem_head x xs)) ∙ own_of_vacant d xs (λ y m. h y (mem_tail y x xs m))

  module _ (d p : ℕ) (h : (x : ℕ) → Mem x (v.entries p) → v.entry_at x ≡ vacant) where
    pub vacant_row : row_at (suc d) v p ≡ empty_row (length (v.entries p))
    unfolding row_at
    vacant_row = row_of_vacant (row_at d v) (v.entries p) h

    pub vacant_owns : owned (suc d) v p ≡ []
    vacant_owns = owned_entries d v p ∙ own_of_vacant d (v.entries p) h

    pub vacant_good : Nodup (v.entries p) → T (good_directory (suc d) v p)
    unfolding good_entry same_name
    vacant_good apart = good_join d v p apart (record {
      each = λ x m. subst (λ (e : Entry). T (good_entry v e)) (sym (h x m)) tt;
      apart = λ x y m k ne. subst (λ (e : Entry). T (not (same_name e (v.entry_at y)))) (sym (h x m)) tt;
      below = λ x m. subst (λ (e : Entry). T (in_directory true (good_directory d v) e)) (sym (h x m)) tt;
    })
