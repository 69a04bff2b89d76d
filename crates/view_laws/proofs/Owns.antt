-- What a directory owns, entry by entry: its own entries' pages, and below each directory what that one owns.
use mathlib.Core.Path.{◌≡◌, refl, sym, ap, ◌∙◌, subst}
use mathlib.Core.Logic.{◌≢◌}
use Prim.Native.Nat.{ℕ, suc, ◌+◌, ◌≤◌}
use native.Mathlib.Omega.{arith}
use mathlib.Core.List.{List, [], ◌++◌, flat_map, append-nil}
use lib.ListN.{length}
use Rattle.volume.proofs.Occ.{occ, Mem, occ_append}
use Rattle.volume.proofs.Flat.{flat_map_flat_map, flat_map_same, flat_map_length_le, occ_flat_map_le, occ_flat_map_two}
use Rattle.model.specs.Entry.{Entry, vacant, a_file, a_directory}
use Rattle.model.specs.View.{View}
use Rattle.model.specs.Sound.{pages_of, pages_at, reached_by, reached, owned}

-- the pages of an entry and of what is below it
unfoldable pub own : ℕ → View → Entry → List ℕ
own d v vacant = []
own d v (a_file locked name date start size) = pages_of v (a_file locked name date start size)
own d v (a_directory name date start size) = v.directory_pages start ++ owned d v start

-- a directory's own pages and those below it
abbrev pub subtree : ℕ → View → ℕ → List ℕ
subtree d v p = v.directory_pages p ++ owned d v p

own_reached : (d : ℕ) (v : View) (at : ℕ) (e : Entry) → v.entry_at at ≡ e → flat_map (pages_at v) (reached_by at (reached d v) e) ≡ own d v e
unfolding own reached_by flat_map pages_of
own_reached d v at vacant q = refl
own_reached d v at (a_file locked name date start size) q = append-nil (pages_at v at) ∙ ap (pages_of v) q
own_reached d v at (a_directory name date start size) q = ap (λ (e : Entry). pages_of v e ++ owned d v start) q

pub owned_entries : (d : ℕ) (v : View) (p : ℕ) → owned (suc d) v p ≡ flat_map (λ at. own d v (v.entry_at at)) (v.entries p)
unfolding reached
owned_entries d v p =
    flat_map_flat_map (pages_at v) (λ at. reached_by at (reached d v) (v.entry_at at)) (v.entries p)
    ∙ flat_map_same (λ at. flat_map (pages_at v) (reached_by at (reached d v) (v.entry_at at))) (λ at. own d v (v.entry_at at)) (v.entries p) (λ at m. own_reached d v at (v.entry_at at) refl)

-- an entry's pages are among the directory's, and two entries' are there side by side
pub own_le : (d : ℕ) (v : View) (p at q : ℕ) → Mem at (v.entries p) → occ q (own d v (v.entry_at at)) ≤ occ q (owned (suc d) v p)
own_le d v p at q m =
    subst (λ (l : List ℕ). occ q (own d v (v.entry_at at)) ≤ occ q l) (sym (owned_entries d v p)) (occ_flat_map_le (λ x. own d v (v.entry_at x)) (v.entries p) at q m)

pub own_two : (d : ℕ) (v : View) (p x y q : ℕ) → x ≢ y → Mem x (v.entries p) → Mem y (v.entries p)
    → occ q (own d v (v.entry_at x)) + occ q (own d v (v.entry_at y)) ≤ occ q (owned (suc d) v p)
own_two d v p x y q ne m k =
    subst (λ (l : List ℕ). occ q (own d v (v.entry_at x)) + occ q (own d v (v.entry_at y)) ≤ occ q l) (sym (owned_entries d v p))
    (occ_flat_map_two (λ x. own d v (v.entry_at x)) (v.entries p) x y q ne m k)

pub own_length : (d : ℕ) (v : View) (p at : ℕ) → Mem at (v.entries p) → length (own d v (v.entry_at at)) ≤ length (owned (suc d) v p)
own_length d v p at m =
    subst (λ (l : List ℕ). length (own d v (v.entry_at at)) ≤ length l) (sym (owned_entries d v p)) (flat_map_length_le (λ x. own d v (v.entry_at x)) (v.entries p) at m)

-- an entry owns its own pages
pub pages_own : (d : ℕ) (v : View) (e : Entry) (q : ℕ) → occ q (pages_of v e) ≤ occ q (own d v e)
unfolding own pages_of
pages_own d v vacant q = omega arith
pages_own d v (a_file locked name date start size) q = omega arith
pages_own d v (a_directory name date start size) q = omega (arith, occ_append q (v.directory_pages start) (owned d v start))
