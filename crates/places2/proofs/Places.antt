-- Where a path leads: line 4 is the path's, the walk of its parents leads to a directory or stops, and there the entry of the last name says what the place is.
use mathlib.Core.Path.{◌≡◌, sym, ap, ◌∙◌, subst}
use Prim.Native.Nat.{ℕ, ◌≤◌}
use mathlib.Core.Bool.{Bool, true, false, not, true≢false}
use lib.ListN.{length}
use lib.Dec.{T}
use borrow.Author.Tests.{not-true, not-false}
use Rattle.std.specs.Prelude.{Option, Some, None, Result, Ok, Err, IsErr, IsErrAnd}
use Rattle.outcomes.proofs.Exits.{told_on}
use Rattle.volume.specs.Bytes.{Bytes}
use Rattle.model.specs.View.{View}
use Rattle.model.specs.Path.{Name, Path, path_of, is_no_path}
use Rattle.model.specs.Walk.{missing, blocked, entry_named}
use Rattle.model.specs.Call.{refusal, refusal_at, Answer, refused, granted}
use Rattle.model2.specs.Entry.{is_locked, name_at, date_at, entry_at}
use Rattle.model2.specs.Version2.{view2}
use Rattle.arrivals.specs.Places.{Spot, the_root, the_file, the_directory, spot_at, spot_named, located, walked_answer, place_named, place_walked}
use Rattle.arrivals.proofs.Placing as Placing
use Rattle.arrivals.proofs.Placing.{place_by, place_below, is_path_lem}
use Rattle.fields.specs.declared.Page.{Page}
use Rattle.fields.specs.declared.Entry.{Entry as Read}
use Rattle.fields.specs.declared.Entry.TheVariants.{Vacant, File, Directory}
use Rattle.fields.specs.Read.{entry_of}
use Rattle.fields.proofs.Plain.{told as is-told, untold}
use Rattle.cursor2.specs.Row.{found_of}
use Rattle.paths.specs.declared.Stop.{Stop}
use Rattle.paths.specs.declared.Stop.TheVariants.{Missing, Blocked}
use Rattle.paths.specs.declared.Parent.{Parent}
use Rattle.paths.specs.Places.{stopped, parent_of}
use Rattle.paths.specs.Steps.{name_in, walked_parent}
use Rattle.paths.proofs.Parents.{path_root, path_below, path_long}
use Rattle.refusals2.specs.declared.Refusal.{Refusal}
use Rattle.refusals2.specs.Told.{told, stopped_by}
use Rattle.places2.specs.declared.Arrived.{Arrived}
use Rattle.places2.specs.Places.{arrival_of, KnownAt}

-- ---- the last name

-- the answer for the name's entry is s
module _ (b : Bytes) (p begins : ℕ) (bytes m : Bytes) (is : m ≡ bytes) (s : Option ℕ) (spot : found_of s ≡ entry_named (view2 b) p m) where
  abbrev name : Name
  name = record { begins = begins; bytes = bytes }

  pub not_named : s ≡ None → refused (refusal_at 5 begins) ≡ place_named (view2 b) p name
  unfolding spot_named walked_answer
  not_named e = rw (← is, ← spot, e)

  -- and what was read there is r
  module _ (at : ℕ) (found : s ≡ Some at) (r : Read) (read : entry_of r (is_locked b at) (name_at b at) (date_at b at) ≡ entry_at b at) where
    named : (x : Read) → r ≡ x → walked_answer (spot_at name at (entry_of x (is_locked b at) (name_at b at) (date_at b at))) ≡ place_named (view2 b) p name
    unfolding spot_named
    named x e = rw (← is, ← spot, found, ← read, e)

    pub named_vacant : r ≡ Vacant → refused (refusal_at 5 begins) ≡ place_named (view2 b) p name
    unfolding spot_at walked_answer
    named_vacant = named Vacant

    pub named_file : (start : Page) (size : ℕ) → r ≡ File start size → granted (the_file at begins start.0 size) ≡ place_named (view2 b) p name
    unfolding spot_at walked_answer
    named_file start size = named (File start size)

    pub named_directory : (start : Page) (size : ℕ) → r ≡ Directory start size → granted (the_directory at begins start.0 size) ≡ place_named (view2 b) p name
    unfolding spot_at walked_answer
    named_directory start size = named (Directory start size)

-- ---- the refusal of an arrival

-- where a call stops nothing is known
pub unknown : (b : Bytes) (a : Result Arrived Refusal) → IsErr a → KnownAt b a
unknown b (Ok x) is = let bad : ◌≡◌ {A = Bool} true false = sym is in absurd (true≢false bad)
unknown b (Err r) is = tt

-- ---- the path, by any view

-- the code says r of whether it is a path
module _ (path : Bytes) (r : Bool) (asked : r ≡ not (is_no_path (path_of path))) where
  -- one that is not `/` alone has two bytes or more
  pub two : not r ≡ false → (length path ≡ 1 → ⊥) → 2 ≤ length path
  two e h = path_long path (is-told asked e) h

  module _ (v : View) where
    pub no_path_lem : not r ≡ true → refused (refusal 4) ≡ place_walked v path
    no_path_lem e = Placing.no_path_lem v path (not-false (is_no_path (path_of path)) (untold asked e))

    module _ (e : not r ≡ false) where
      past_line : walked_answer (located v (path_of path)) ≡ place_walked v path
      past_line = is_path_lem v path (not-true (is_no_path (path_of path)) (is-told asked e))

      pub at_root : length path ≡ 1 → granted the_root ≡ place_walked v path
      unfolding located walked_answer
      at_root l = ap (λ (p : Path). walked_answer (located v p)) (sym (path_root path (is-told asked e) l)) ∙ past_line

      -- the code says w of the parents
      module _ (low : length path ≡ 1 → ⊥) (w : Result Parent Stop) (walked : parent_of path w ≡ walked_parent v (path_of path) 0) where
        by_parents : place_by v (parent_of path w) ≡ place_walked v path
        by_parents =
            let q = path_below path (two e low) (subst T (sym (is-told asked e)) tt) in
            ap (place_by v) (walked ∙ ap (λ (y : Path). walked_parent v y 0) q.2) ∙ place_below v q.0 q.1
            ∙ ap (λ (y : Path). walked_answer (located v y)) (sym q.2) ∙ past_line

      module _ (low : length path ≡ 1 → ⊥) where
        pub parent_in : (w : Result Parent Stop) (q : Parent) → w ≡ Ok q → parent_of path w ≡ walked_parent v (path_of path) 0
            → {x : Answer Spot} → x ≡ place_named v q.directory.0 (name_in path q.begins (length path)) → x ≡ place_walked v path
        parent_in w q is walked last = last ∙ by_parents low (Ok q) (rw is at walked)

        parent_refused : (s : Stop) → stopped s ≡ walked_parent v (path_of path) 0 → refused (told (stopped_by s)) ≡ place_walked v path
        parent_refused (Missing i) walked = by_parents low (Err (Missing i)) walked
        parent_refused (Blocked i) walked = by_parents low (Err (Blocked i)) walked

        pub parent_stops : (a : Result Arrived Refusal) (w : Result Parent Stop) (s : Stop) → w ≡ Err s → parent_of path w ≡ walked_parent v (path_of path) 0
            → IsErrAnd a (λ y. y ≡ stopped_by s) → arrival_of a ≡ place_walked v path
        parent_stops a w s is walked stops = told_on told _ a (stopped_by s) stops (parent_refused s (rw is at walked))

        -- where a walk stops for each of its reasons
        pub parent_missing : {i : ℕ} → Unit {0} × (missing i ≡ walked_parent v (path_of path) 0) → refused (refusal_at 5 i) ≡ place_walked v path
        parent_missing {i} walked = by_parents low (Err (Missing i)) walked.1

        pub parent_blocked : {i : ℕ} → Unit {0} × (blocked i ≡ walked_parent v (path_of path) 0) → refused (refusal_at 6 i) ≡ place_walked v path
        parent_blocked {i} walked = by_parents low (Err (Blocked i)) walked.1
