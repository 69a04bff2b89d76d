-- Where a path leads: the three lines of the image are the judge's, line 4 is the path's, and then the walk on the bytes decides.
use mathlib.Core.Path.{◌≡◌, refl, sym, ap, ◌∙◌, subst}
use Prim.Native.Nat.{ℕ, ◌*◌, ◌≤◌}
use native.Mathlib.Omega.{arith}
use mathlib.Core.Option.{some}
use mathlib.Core.Bool.{Bool, true, false, not, true≢false}
use lib.ListN.{length}
use lib.Dec.{T}
use borrow.Author.Tests.{not-true, not-false}
use Rattle.volume.specs.Bytes.{Bytes}
use Rattle.std.specs.Prelude.{if◌then◌else◌, Option, None, Result, Ok, Err, ok_or, IsErrAnd}
use Rattle.std.proofs.lemmas.Result.{err_from_is_err_and}
use Rattle.model.specs.Layout.{page_size, page_count, valid_length, valid_header}
use Rattle.model.specs.Entry.{vacant, a_file, a_directory, is_locked, name_at, date_at, entry_at}
use Rattle.model.specs.Version1.{view}
use Rattle.model.specs.Sound.{sound}
use Rattle.model.specs.Path.{Name, Path, path_of, is_no_path}
use Rattle.model.specs.Walk.{entry_named}
use Rattle.model.specs.Walk.{Walked, missing, blocked}
use Rattle.model.specs.Call.{Verdict, Refusal as Model, refusal, refusal_at, Answer, refused, granted}
use Rattle.model.specs.Refusal.{settle}
use Rattle.model.specs.Meaning.{first_fault, image_lines}
use Rattle.model.specs.Judge.{Judged, fault, clean, judge, is_clean}
use Rattle.judge.specs.Answers.{judged_as, concluded}
use Rattle.laws.proofs.Judged.{judge_sound}
use Rattle.laws.proofs.Facts.{valid_sized, sound_facts_lem}
use Rattle.fields.proofs.Plain.{told as is-told, untold}
use Rattle.paths.specs.declared.Stop.{Stop}
use Rattle.paths.specs.declared.Stop.TheVariants.{Missing, Blocked}
use Rattle.paths.specs.declared.Parent.{Parent}
use Rattle.paths.specs.declared.Place.{Place}
use Rattle.paths.specs.Places.{stopped, parent_of, spot_of}
use Rattle.outcomes.specs.Answers.{answered}
use Rattle.outcomes.proofs.Exits.{told_on}
use Rattle.walk.specs.Steps.{spot_of as named-at, name_in, walked_parent}
use Rattle.paths.proofs.Parents.{path_root, path_below, path_long}
use Rattle.refusals.specs.declared.Refusal.{Refusal}
use Rattle.refusals.specs.declared.Refusal.TheVariants.{NoSuchName}
use Rattle.refusals.specs.Told.{told, stopped_by}
use Rattle.arrivals.specs.Places as Of
use Rattle.arrivals.proofs.Placing as Placing
use Rattle.arrivals.proofs.Placing.{place_by, place_below, is_path_lem}
use Rattle.places.specs.Places.{Spot, the_root, the_file, the_directory, spot_at, located, walked_answer, place_named, place_walked, placed}

-- ---- the last name

module _ (b : Bytes) (p begins : ℕ) (bytes m : Bytes) (is : m ≡ bytes) where
  abbrev name : Name
  name = record { begins = begins; bytes = bytes }

  -- the exit of a search that finds none
  pub not_named : (s : Option ℕ) (e : Refusal) (r : Result Place Refusal) → named-at s ≡ entry_named (view b) p m
      → s ≡ None → Err e ≡ ok_or s (NoSuchName begins) → IsErrAnd r (λ y. y ≡ e) → answered told spot_of r ≡ place_named b p name
  unfolding Of.spot_named walked_answer
  not_named s e r spot none given stops =
      let q = err_from_is_err_and r stops in
      let t : ◌≡◌ {A = Result ℕ Refusal} (Err e) (Err (NoSuchName begins)) = rw none at given in
      let u : e ≡ NoSuchName begins = cc in
      rw (q.1, q.2, u, ← is, ← spot, none) refl

  -- the entry that was found is read
  module _ (at : ℕ) (found : some at ≡ entry_named (view b) p m) where
    pub named_vacant : vacant ≡ entry_at b at → refused (refusal_at 5 begins) ≡ place_named b p name
    unfolding Of.spot_named spot_at walked_answer
    named_vacant e = rw (← is, ← found, ← e)

    pub named_file : {start size : ℕ} → a_file (is_locked b at) (name_at b at) (date_at b at) start size ≡ entry_at b at
        → granted (the_file at begins start size) ≡ place_named b p name
    unfolding Of.spot_named spot_at walked_answer
    named_file e = rw (← is, ← found, ← e)

    pub named_directory : {start size : ℕ} → a_directory (name_at b at) (date_at b at) start size ≡ entry_at b at
        → granted (the_directory at begins start size) ≡ place_named b p name
    unfolding Of.spot_named spot_at walked_answer
    named_directory e = rw (← is, ← found, ← e)

-- ---- the path

-- the code says r of whether it is a path
module _ (path : Bytes) (r : Bool) (asked : r ≡ not (is_no_path (path_of path))) where
  -- one that is not `/` alone has two bytes or more
  pub two : not r ≡ false → (length path ≡ 1 → ⊥) → 2 ≤ length path
  two e h = path_long path (is-told asked e) h

  module _ (b : Bytes) where
    pub no_path_lem : not r ≡ true → refused (refusal 4) ≡ place_walked b path
    no_path_lem e = Placing.no_path_lem (view b) path (not-false (is_no_path (path_of path)) (untold asked e))

    module _ (e : not r ≡ false) where
      past_line : walked_answer (located b (path_of path)) ≡ place_walked b path
      past_line = is_path_lem (view b) path (not-true (is_no_path (path_of path)) (is-told asked e))

      pub at_root : length path ≡ 1 → granted the_root ≡ place_walked b path
      unfolding Of.located walked_answer
      at_root l = ap (λ (p : Path). walked_answer (located b p)) (sym (path_root path (is-told asked e) l)) ∙ past_line

      module _ (low : length path ≡ 1 → ⊥) where
        -- by what is said of the parents
        by_parents : {w : Walked (ℕ × Name)} → w ≡ walked_parent b (path_of path) 0 → place_by (view b) w ≡ place_walked b path
        by_parents walked =
            let q = path_below path (two e low) (subst T (sym (is-told asked e)) tt) in
            ap (place_by (view b)) (walked ∙ ap (λ (y : Path). walked_parent b y 0) q.2) ∙ place_below (view b) q.0 q.1
            ∙ ap (λ (y : Path). walked_answer (located b y)) (sym q.2) ∙ past_line

        pub parent_in : (q : Parent) → parent_of path (Ok q) ≡ walked_parent b (path_of path) 0
            → {x : Answer Spot} → x ≡ place_named b q.directory.0 (name_in path q.begins (length path)) → x ≡ place_walked b path
        parent_in q walked last = last ∙ by_parents walked

        parent_stopped : (s : Stop) → stopped s ≡ walked_parent b (path_of path) 0 → refused (told (stopped_by s)) ≡ place_walked b path
        parent_stopped (Missing i) walked = by_parents walked
        parent_stopped (Blocked i) walked = by_parents walked

        pub parent_stops : (r : Result Place Refusal) (w : Result Parent Stop) (s : Stop) → w ≡ Err s → parent_of path w ≡ walked_parent b (path_of path) 0
            → IsErrAnd r (λ y. y ≡ stopped_by s) → answered told spot_of r ≡ place_walked b path
        parent_stops r w s is walked stops = told_on told spot_of r (stopped_by s) stops (parent_stopped s (rw is at walked))

        pub parent_missing : {i : ℕ} → Unit {0} × (missing i ≡ walked_parent b (path_of path) 0) → refused (refusal_at 5 i) ≡ place_walked b path
        parent_missing walked = by_parents walked.1

        pub parent_blocked : {i : ℕ} → Unit {0} × (blocked i ≡ walked_parent b (path_of path) 0) → refused (refusal_at 6 i) ≡ place_walked b path
        parent_blocked walked = by_parents walked.1

-- ---- the image

-- f of the judge's refusal, or x on a sound image
abbrev pub judged_to : {A : Type 0} → (Model → A) → A → Answer Verdict → A
judged_to f x (refused m) = f m
judged_to f x (granted v) = x

module _ (b : Bytes) where
  pub image_lines_lem : {A : Type 0} (f : Model → A) (x : A) → judged_to f x (judged_as b) ≡ settle (image_lines b) f x
  unfolding judged_as concluded is_clean settle
  image_lines_lem {A} f x = by_length (valid_length (length b)) refl
    where
      judged : (j : Judged) (s : Bool) → is_clean j ≡ s → judged_to f x (concluded b j) ≡ (if not s then f (first_fault j) else x)
      judged (fault y) s e = rw (sym e)
      judged (clean marks) s e = rw (sym e)

      by_header : (h : Bool) → valid_header b ≡ h → valid_length (length b) ≡ true
          → judged_to f x (if h then concluded b (judge b) else refused (refusal 2)) ≡ (if not h then f (refusal 2) else if not (sound b) then f (first_fault (judge b)) else x)
      by_header false h v = refl
      by_header true h v = judged (judge b) (sound b) (judge_sound b (subst T (sym v) tt) (subst T (sym h) tt))

      by_length : (v : Bool) → valid_length (length b) ≡ v
          → judged_to f x (if v then (if valid_header b then concluded b (judge b) else refused (refusal 2)) else refused (refusal 1))
          ≡ (if not v then f (refusal 1) else if not (valid_header b) then f (refusal 2) else if not (sound b) then f (first_fault (judge b)) else x)
      by_length false v = refl
      by_length true v = by_header (valid_header b) refl v

  module _ (path : Bytes) where
    placed_judged : {j : Answer Verdict} → j ≡ judged_as b → judged_to refused (place_walked b path) j ≡ placed b path
    unfolding Of.placed Of.place_walked settle
    placed_judged judged = ap (judged_to refused (place_walked b path)) judged ∙ image_lines_lem refused (place_walked b path)

    pub placed_sound : {v : Verdict} → granted v ≡ judged_as b → {x : Answer Spot} → x ≡ place_walked b path → x ≡ placed b path
    placed_sound judged w = w ∙ placed_judged judged

    pub placed_refused : {m : Model} → refused m ≡ judged_as b → refused m ≡ placed b path
    placed_refused judged = placed_judged judged

    pub placed_stopped : (r : Result Place Refusal) (e : Refusal) → IsErrAnd r (λ y. y ≡ e) → refused (told e) ≡ judged_as b → answered told spot_of r ≡ placed b path
    placed_stopped r e stops judged = told_on told spot_of r e stops (placed_judged judged)

  -- an image that is judged sound is so
  pub judged_sound : {v : Verdict} → granted v ≡ judged_as b → T (sound b)
  unfolding settle
  judged_sound judged = go (valid_length (length b)) (valid_header b) (sound b) (ap (judged_to (λ m. false) true) judged ∙ image_lines_lem (λ m. false) true)
    where
      go : (v h s : Bool) → true ≡ (if not v then false else if not h then false else if not s then false else true) → T s
      go true true true k = tt
      go true true false k = let bad : ◌≡◌ {A = Bool} true false = k in absurd (true≢false bad)
      go true false s k = let bad : ◌≡◌ {A = Bool} true false = k in absurd (true≢false bad)
      go false h s k = let bad : ◌≡◌ {A = Bool} true false = k in absurd (true≢false bad)

  pub judged_whole : {v : Verdict} → granted v ≡ judged_as b → page_size * page_count b ≡ length b
  judged_whole judged = omega (arith, (valid_sized b (sound_facts_lem (judged_sound judged)).fits).whole)
