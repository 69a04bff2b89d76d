-- Where a make of version 2 puts its entry: the judge's finding settles the lines of the image, and behind them the directory that the walk leads to decides,
-- whose row is that of the image's view.
use mathlib.Core.Path.{◌≡◌, sym, ap, ◌∙◌, subst}
use Prim.Native.Nat.{ℕ}
use mathlib.Core.Bool.{Bool, true, false, not, true≢false}
use mathlib.Core.Option.{none, some}
use mathlib.Core.List.{List}
use lib.ListN.{length}
use lib.Dec.{T}
use borrow.Author.Tests.{not-true, not-false}
use Rattle.std.specs.Prelude.{Option, Some, None, Result, Ok, Err, IsErr, IsErrAnd}
use Rattle.outcomes.proofs.Exits.{told_on}
use Rattle.volume.specs.Bytes.{Bytes}
use Rattle.volume.specs.Lists.{first}
use Rattle.model.specs.Date.{good_date}
use Rattle.model.specs.Path.{Name, Path, path_of, is_no_path}
use Rattle.model.specs.Walk.{missing, blocked, entry_named}
use Rattle.model.specs.EffectOf.{is_vacant}
use Rattle.model.specs.Call.{Refusal as Model, refusal, refusal_at, Verdict, Answer, refused, granted}
use Rattle.model.specs.MeaningOf.{sound}
use Rattle.model2.specs.Entry.{entry_at}
use Rattle.model2.specs.Version2.{view2}
use Rattle.model2.specs.Calls.{v2}
use Rattle.arrivals.specs.Openings as model
use Rattle.arrivals.specs.Openings.{vacancy_in, unless_full, unless_named, opening_named, opening_walked, opening}
use Rattle.arrivals.proofs.Openings.{opening_by, opening_no_path, opening_bad_date, opening_root, opening_below, opening_stopped, opening_sound as sound-opening}
use Rattle.fields.proofs.Plain.{told as is-told, untold}
use Rattle.judge2.specs.Answers.{judged_as}
use Rattle.shape.specs.declared.Shape.{Shape}
use Rattle.cursor2.specs.Row.{row, found_of}
use Rattle.known2.specs.Known.{Known}
use Rattle.known2.proofs.Rows.{formed_row}
use Rattle.paths.specs.declared.Stop.{Stop}
use Rattle.paths.specs.declared.Stop.TheVariants.{Missing, Blocked}
use Rattle.paths.specs.declared.Parent.{Parent}
use Rattle.paths.specs.Places.{stopped, parent_of}
use Rattle.paths.specs.Steps.{name_in, walked_parent}
use Rattle.paths.proofs.Parents.{path_root, path_below, path_long}
use Rattle.places2.proofs.Judged.{judged_lines, judged_sound}
use Rattle.places2.proofs.Held.{reads2}
use Rattle.refusals2.specs.declared.Refusal.{Refusal}
use Rattle.refusals2.specs.Told.{told, stopped_by}
use Rattle.openings2.specs.declared.Opening.{Opening}
use Rattle.openings2.specs.Openings.{opened, opening_of, Ready}

-- ---- the refusal of an opening

-- nothing is known there
pub unready : (b path : Bytes) (o : Result Opening Refusal) → IsErr o → Ready b path o
unready b path (Ok x) is = let bad : ◌≡◌ {A = Bool} true false = sym is in absurd (true≢false bad)
unready b path (Err r) is = tt

-- ---- one directory

-- the answer for the name's entry is f
module _ (b : Bytes) (p begins : ℕ) (bytes m : Bytes) (is : m ≡ bytes) (f : Option ℕ) (spot : found_of f ≡ entry_named (view2 b) p m) where
  abbrev name : Name
  name = record { begins = begins; bytes = bytes }

  pub name_taken : (at : ℕ) → f ≡ Some at → refused (refusal 8) ≡ opening_named true (view2 b) p name
  unfolding unless_named
  name_taken at e = rw (← is, ← spot, e)

  -- and for the lowest vacant one v
  module _ (new : f ≡ None) {s : Shape} {n : ℕ} (k : Known b s n) (v : Option ℕ)
      (lowest : found_of v ≡ first (λ at. is_vacant (entry_at b at)) (row s n b p)) where
    pub name_new : granted (record { directory = p; vacancy = found_of v; name = bytes }) ≡ opening_named true (view2 b) p name
    unfolding unless_named unless_full
    name_new =
        let here : found_of v ≡ vacancy_in (view2 b) p = lowest ∙ ap (λ (ats : List ℕ). first (λ at. is_vacant (entry_at b at)) ats) (formed_row k.formed p) in
        rw (here, ← is, ← spot, new)

-- ---- the path and the date

-- the code says r of whether it is a path
module _ (b path date : Bytes) (r : Bool) (told_path : r ≡ not (is_no_path (path_of path))) where
  pub no_path_lem : not r ≡ true → refused (refusal 4) ≡ opening_walked v2 b path date
  no_path_lem e = opening_no_path v2 b path date (not-false (is_no_path (path_of path)) (untold told_path e))

  -- and g of the date
  module _ (e : not r ≡ false) (g : Bool) (told_date : g ≡ good_date date) where
    is_path_lem : not (is_no_path (path_of path)) ≡ true
    is_path_lem = is-told told_path e

    pub bad_date : not g ≡ true → refused (refusal 11) ≡ opening_walked v2 b path date
    bad_date d = opening_bad_date v2 b path date (not-true (is_no_path (path_of path)) is_path_lem) (untold told_date d)

    module _ (d : not g ≡ false) where
      pub root_taken : length path ≡ 1 → refused (refusal 8) ≡ opening_walked v2 b path date
      root_taken l = opening_root v2 b path date (is-told told_date d) (path_root path is_path_lem l)

      -- and w of the parents
      module _ (h : T (sound v2 b)) (low : length path ≡ 1 → ⊥) where
        by_parents : (w : Result Parent Stop) → parent_of path w ≡ walked_parent (view2 b) (path_of path) 0 → opening_by true (view2 b) (parent_of path w) ≡ opening_walked v2 b path date
        by_parents w walked =
            let q = path_below path (path_long path is_path_lem low) (subst T (sym is_path_lem) tt) in
            ap (opening_by true (view2 b)) (walked ∙ ap (λ (y : Path). walked_parent (view2 b) y 0) q.2)
            ∙ opening_below v2 b path date (is-told told_date d) reads2 h q.2

        pub parent_in : (w : Result Parent Stop) (q : Parent) → w ≡ Ok q → parent_of path w ≡ walked_parent (view2 b) (path_of path) 0 → {x : Answer model.Opening}
            → x ≡ opening_named true (view2 b) q.directory.0 (name_in path q.begins (length path)) → x ≡ opening_walked v2 b path date
        parent_in w q is walked last = last ∙ by_parents (Ok q) (rw is at walked)

        parent_refused : (s : Stop) → stopped s ≡ walked_parent (view2 b) (path_of path) 0 → refused (told (stopped_by s)) ≡ opening_walked v2 b path date
        parent_refused (Missing i) walked = by_parents (Err (Missing i)) walked
        parent_refused (Blocked i) walked = by_parents (Err (Blocked i)) walked

        pub parent_stops : (o : Result Opening Refusal) (w : Result Parent Stop) (s : Stop) → w ≡ Err s → parent_of path w ≡ walked_parent (view2 b) (path_of path) 0
            → IsErrAnd o (λ y. y ≡ stopped_by s) → opening_of path o ≡ opening_walked v2 b path date
        parent_stops o w s is walked stops = told_on told (opened path) o (stopped_by s) stops (parent_refused s (rw is at walked))

        -- where a walk stops for each of its reasons
        pub parent_missing : {i : ℕ} → Unit {0} × (missing i ≡ walked_parent (view2 b) (path_of path) 0) → refused (refusal_at 5 i) ≡ opening_walked v2 b path date
        parent_missing {i} walked = by_parents (Err (Missing i)) walked.1

        pub parent_blocked : {i : ℕ} → Unit {0} × (blocked i ≡ walked_parent (view2 b) (path_of path) 0) → refused (refusal_at 6 i) ≡ opening_walked v2 b path date
        parent_blocked {i} walked = by_parents (Err (Blocked i)) walked.1

-- ---- the image

module _ (b path date : Bytes) where
  pub opening_sound : {v : Verdict} → granted v ≡ judged_as b → {x : Answer model.Opening} → x ≡ opening_walked v2 b path date → x ≡ opening v2 b path date
  opening_sound e w = sound-opening v2 b path date (judged_sound b e) w

  pub opening_refused : (o : Result Opening Refusal) (r : Refusal) → IsErrAnd o (λ y. y ≡ r) → refused (told r) ≡ judged_as b → opening_of path o ≡ opening v2 b path date
  opening_refused o r stops e = told_on told (opened path) o r stops (opening_stopped v2 b path date (sym (judged_lines b some none e)))

  -- what the judge refuses by, the call is refused by
  pub opening_faulty : {m : Model} → (refused m ≡ judged_as b) × Unit {0} → refused m ≡ opening v2 b path date
  opening_faulty e = opening_stopped v2 b path date (sym (judged_lines b some none e.0))
