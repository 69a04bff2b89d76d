-- List: what one entry tells, and that the entry at the front of what is left of a row behind i entries is entry i.
use mathlib.Core.Path.{◌≡◌, refl, sym, ap, ap₂, ◌∙◌}
use Prim.Native.Nat.{ℕ, zero, suc, ◌+◌}
use mathlib.Core.Bool.{Bool}
use mathlib.Core.List.{List, [], ◌∷◌}
use lib.ListN.{drop}
use Rattle.volume.specs.Bytes.{Bytes}
use Rattle.volume.specs.Geometry as On
use Rattle.model.specs.Entry.{Entry, vacant, a_file, a_directory}
use Rattle.model.specs.View.{View}
use Rattle.model.specs.Call.{list, is_file, is_directory, Listed, empty, holds, refusal, Answer, refused, granted}
use Rattle.model.specs.MeaningOf.{answer}
use Rattle.model2.specs.Entry.{is_locked, name_at, date_at, entry_at}
use Rattle.model2.specs.Version2.{view2}
use Rattle.model2.specs.Calls.{v2}
use Rattle.arrivals.specs.Places.{Spot, placed}
use Rattle.arrivals.specs.Listed.{entry_told, listed_of, entry_listed, list_at}
use Rattle.arrivals.proofs.Lists as Any
use Rattle.shape.specs.declared.Shape.{Shape}
use Rattle.shape.specs.Geometry.{geometry_of}
use Rattle.cursor2.specs.declared.Cursor.{Cursor}
use Rattle.cursor2.specs.Row.{row, entries_from, position_at, row_from, Stands}
use Rattle.cursor2.proofs.Turns.{turn_same}
use Rattle.known2.specs.Known.{Known}
use Rattle.known2.proofs.Rows.{formed_row}
use Rattle.places2.proofs.Held.{reads2, page_size_lem}

-- ---- one entry

module _ (z : ℕ) (b : Bytes) (at : ℕ) where
  abbrev this : Listed
  this = entry_told z (entry_at b at)

  pub told_vacant : vacant ≡ entry_at b at → empty ≡ this
  unfolding entry_told
  told_vacant e = ap (λ (x : Entry). entry_told z x) e

  module _ {name date : Bytes} (is_name : name ≡ name_at b at) (is_date : date ≡ date_at b at) where
    pub told_file : {locked : Bool} {start k : ℕ} → locked ≡ is_locked b at → a_file (is_locked b at) (name_at b at) (date_at b at) start k ≡ entry_at b at
        → holds (is_file locked) name k date ≡ this
    unfolding entry_told
    told_file {locked} {start} {k} l e =
        ap (λ (c : Bool). holds (is_file c) name k date) l ∙ ap₂ (λ (n d : Bytes). holds (is_file (is_locked b at)) n k d) is_name is_date
        ∙ ap (λ (x : Entry). entry_told z x) e

    pub told_directory : {start k : ℕ} → a_directory (name_at b at) (date_at b at) start k ≡ entry_at b at → holds is_directory name z date ≡ this
    unfolding entry_told
    told_directory {start} {k} e =
        ap₂ (λ (n d : Bytes). holds is_directory n z d) is_name is_date ∙ ap (λ (x : Entry). entry_told z x) e

-- ---- entry i

module _ (z : ℕ) (v : View) where
  listed_none : (ats : List ℕ) (i : ℕ) → [] ≡ drop i ats → refused (refusal 12) ≡ listed_of z v ats i
  unfolding listed_of
  listed_none [] i e = refl
  listed_none (x ∷ xs) zero e = cc e
  listed_none (x ∷ xs) (suc i) e = listed_none xs i e

  listed_some : (ats : List ℕ) (i at : ℕ) (rest : List ℕ) → at ∷ rest ≡ drop i ats → granted (entry_told z (v.entry_at at)) ≡ listed_of z v ats i
  unfolding listed_of
  listed_some [] zero at rest e = cc e
  listed_some [] (suc i) at rest e = cc e
  listed_some (x ∷ xs) zero at rest e = let u : at ≡ x = cc e in ap (λ (y : ℕ). granted (entry_told z (v.entry_at y))) u
  listed_some (x ∷ xs) (suc i) at rest e = listed_some xs i at rest e

module _ {b : Bytes} {s : Shape} {n : ℕ} (k : Known b s n) (p i : ℕ) where
  pub list_past : [] ≡ drop i (row s n b p) → refused (refusal 12) ≡ entry_listed v2 b p i
  list_past left = listed_none _ (view2 b) ((view2 b).entries p) i (left ∙ ap (drop i) (formed_row k.formed p))

  pub list_here : (c : Cursor) → row_from s n b c ≡ drop i (row s n b p) → Stands s n b c → {at : ℕ} → at ≡ position_at s n c → {x : Listed}
      → x ≡ entry_told s.size (entry_at b at) → granted x ≡ entry_listed v2 b p i
  list_here c left t {at} here {x} says =
      let rest : List ℕ = entries_from s.size n (On.next (geometry_of s) b) c.page.0 (c.number + 1) c.left in
      let front : position_at s n c ∷ rest ≡ drop i ((view2 b).entries p) =
      sym (turn_same s.size n (On.next (geometry_of s) b) c.page.0 c.number t.within c.left) ∙ left ∙ ap (drop i) (formed_row k.formed p) in
      ap (λ (y : Listed). granted y) says
      ∙ ap₂ (λ (y j : ℕ). granted (entry_told y (entry_at b j))) (page_size_lem k) here
      ∙ listed_some _ (view2 b) ((view2 b).entries p) i (position_at s n c) rest front

-- ---- the call

-- what is said of a place is said by the call
pub list_said : (b path : Bytes) (i : ℕ) {x : Answer Listed} (s : Spot) → granted s ≡ placed v2 b path → x ≡ list_at v2 b i s → x ≡ answer v2 (list path i) b
list_said b path i s e h = h ∙ Any.list_at_lem reads2 b path i s e
