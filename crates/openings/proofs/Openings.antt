-- Where a make puts its entry: on a sound image the lines of the tree ask what the bytes of the parent directory say, whether an entry has the
-- name and whether one is vacant.
use mathlib.Core.Path.{◌≡◌, refl, sym, ap, ◌∙◌, subst}
use Prim.Native.Nat.{ℕ, suc, ◌*◌, ◌-◌, ◌≤◌, ◌<◌}
use native.Mathlib.Omega.{arith}
use mathlib.Core.Bool.{Bool, true, false, not, ◌||◌, true≢false}
use mathlib.Core.Option.{Option, none, some, get_or, map}
use mathlib.Core.List.{List, [], ◌∷◌, ◌++◌}
use lib.ListN.{length}
use lib.Dec.{T, eqb}
use borrow.Author.Tests.{not-true, not-false}
use Rattle.volume.specs.Bytes.{Bytes}
use Rattle.std.specs.Prelude as std
use Rattle.std.specs.Prelude.{if◌then◌else◌, Some, None, is_some, Result, Ok, Err, ok_or, IsErr, IsErrAnd}
use Rattle.volume.specs.Lists.{first}
use Rattle.model.specs.Layout.{page_size, page_count}
use Rattle.model.specs.Date.{good_date}
use Rattle.model.specs.Entry.{entries, entry_at}
use Rattle.model.specs.Version1.{view}
use Rattle.model.specs.Tree.{Row, end, width, held, lookup}
use Rattle.model.specs.Path.{Name, Path, below, path_of, is_no_path, is_root, parents, last_name}
use Rattle.model.specs.Image.{row_at, tree_of}
use Rattle.model.specs.Walk.{Walked, arrived, missing, blocked, walk, in_walked, entry_named, walk_on, arrived_or, parent_page}
use Rattle.model.specs.Sound.{sound}
use Rattle.model.specs.Effect.{lowest_vacant}
use Rattle.model.specs.Call.{Verdict, refusal, refusal_at, Answer, refused, granted}
use Rattle.model.specs.Refusal.{is_missing, is_blocked, stopped_at, is_there, walk_lines, settle}
use Rattle.model.specs.EffectOf
use Rattle.model.specs.RefusalOf
use Rattle.laws.proofs.Facts.{Facts, sound_facts_lem}
use Rattle.laws.proofs.Slots.{size, slot}
use Rattle.laws.proofs.Walks.{node_of, lookup_named, map_walked, walk_bytes}
use Rattle.walk.specs.Steps as code
use Rattle.paths.proofs.Parents.{path_root, path_below}
use Rattle.walk.specs.Steps.{spot_of}
use Rattle.paths.specs.declared.Stop.{Stop}
use Rattle.paths.specs.declared.Stop.TheVariants.{Missing, Blocked}
use Rattle.paths.specs.declared.Parent.{Parent}
use Rattle.paths.specs.Places.{stopped, parent_of}
use Rattle.outcomes.specs.Answers.{answered}
use Rattle.outcomes.proofs.Exits.{told_on}
use Rattle.fields.proofs.Plain.{told as is-told, untold}
use Rattle.judge.specs.Answers.{judged_as}
use Rattle.arrivals.specs.Openings.{is_none}
use Rattle.arrivals.proofs.Vacancies.{directory_full}
use Rattle.places.proofs.Places.{two, judged_to, image_lines_lem}
use Rattle.places.proofs.Entries.{leads}
use Rattle.vacancies.proofs.Vacancies.{vacancy, first_entry}
use Rattle.refusals.specs.declared.Refusal.{Refusal}
use Rattle.refusals.specs.declared.Refusal.TheVariants.{DirectoryFull}
use Rattle.refusals.specs.Told.{told, stopped_by}
use Rattle.openings.specs.declared.Opening.{Opening}
use Rattle.openings.specs.Openings.{Place, vacancy_or, unless_named, opening_named, opening_walked, opening, opened, Named}

-- ---- an opening that there is none of

pub unnamed : (path : Bytes) (r : Result Opening Refusal) → IsErr r → Named path r
unnamed path (Ok o) is = let bad : ◌≡◌ {A = Bool} true false = sym is in absurd (true≢false bad)
unnamed path (Err e) is = tt

-- ---- one directory

none_named : (s : std.Option ℕ) → is_some s ≡ false → s ≡ None
none_named None e = refl
none_named (Some at) e = let bad : ◌≡◌ {A = Bool} true false = e in absurd (true≢false bad)

-- the answer for the name's entry is s, and the code asks whether there is one
module _ (b : Bytes) (p begins : ℕ) (bytes m : Bytes) (is : m ≡ bytes) (s : std.Option ℕ) (spot : spot_of s ≡ entry_named (view b) p m)
    (has : Bool) (asked-entry : has ≡ is_some s) where
  abbrev name : Name
  name = record { begins = begins; bytes = bytes }

  pub name_taken : has ≡ true → refused (refusal 8) ≡ opening_named b p name
  unfolding unless_named
  name_taken e = go s refl (sym asked-entry ∙ e)
    where
      go : (x : std.Option ℕ) → s ≡ x → is_some x ≡ true → refused (refusal 8) ≡ opening_named b p name
      go None q f = let bad : ◌≡◌ {A = Bool} true false = sym f in absurd (true≢false bad)
      go (Some at) q f = rw (← is, ← spot, q)

  -- and for the lowest vacant one v
  module _ (new : has ≡ false) (v : std.Option ℕ) (lowest : spot_of v ≡ first (vacancy b) (entries p)) where
    pub entry_vacant : (at : ℕ) → v ≡ Some at → granted (at, bytes) ≡ opening_named b p name
    unfolding unless_named vacancy_or
    entry_vacant at e = rw (← is, ← spot, none_named s (sym asked-entry ∙ new), ← lowest, e)

    none_vacant : v ≡ None → refused (refusal 9) ≡ opening_named b p name
    unfolding unless_named vacancy_or
    none_vacant e = rw (← is, ← spot, none_named s (sym asked-entry ∙ new), ← lowest, e)

    pub full_stops : (path : Bytes) (r : Result Opening Refusal) (e : Refusal) → v ≡ None → Err e ≡ ok_or v DirectoryFull → IsErrAnd r (λ y. y ≡ e)
        → answered told (opened path) r ≡ opening_named b p name
    full_stops path r e full given is =
        let t : ◌≡◌ {A = Result ℕ Refusal} (Err e) (Err DirectoryFull) = rw full at given in
        let u : e ≡ DirectoryFull = cc in
        told_on told (opened path) r e is (rw u (none_vacant full))

-- ---- the lines behind the path and the date

-- what the walk of the parents says
abbrev pub opening_by : Bytes → Walked (ℕ × Name) → Answer Place
opening_by b (arrived w) = opening_named b w.0 w.1
opening_by b (missing i) = refused (refusal_at 5 i)
opening_by b (blocked i) = refused (refusal_at 6 i)

abbrev lines_of : (is_root : Bool) → Bytes → Walked Row → Place → Answer Place
lines_of r n w x = settle (walk_lines w ++ ((r || is_there (lookup n (arrived_or end w)), refusal 8) ∷ (eqb (held (arrived_or end w)) (width (arrived_or end w)), refusal 9) ∷ [])) refused (granted x)

module _ (b : Bytes) (f : Facts b) where
  directory_asked : (t : ℕ) (n : Name) → lines_of false n.bytes (arrived (row_at (page_count b) (view b) t)) (lowest_vacant b t, n.bytes) ≡ opening_named b t n
  unfolding settle is_missing is_blocked arrived_or EffectOf.lowest_vacant is_there unless_named vacancy_or is_none
  directory_asked t n =
      let deep : page_count b ≡ suc (page_count b - 1) = omega (arith, (size f).low) in
      subst (λ (k : ℕ). lines_of false n.bytes (arrived (row_at k (view b) t)) (lowest_vacant b t, n.bytes) ≡ opening_named b t n) (sym deep)
      (rw (lookup_named b (page_count b - 1) t n.bytes, directory_full (page_count b - 1) (view b) t) (go (entry_named (view b) t n.bytes) (first (vacancy b) (entries t))))
    where
      go : (o v : Option ℕ) → (if is_there (map (λ at. node_of (view b) (row_at (page_count b - 1) (view b)) (entry_at b at)) o) then refused (refusal 8) else if is_none v then refused (refusal 9) else granted (get_or v 0, n.bytes))
          ≡ unless_named (vacancy_or n.bytes v) o
      go none none = refl
      go none (some at) = refl
      go (some at) none = refl
      go (some at) (some at') = refl

  parents_asked : (ns : List Name) (n : Name) → lines_of false n.bytes (walk ns (tree_of b).root) (lowest_vacant b (arrived_or 0 (walk_on (view b) ns 0)), n.bytes) ≡ opening_by b (code.walked_parent b (below ns n) 0)
  unfolding map_walked in_walked settle is_missing is_blocked stopped_at arrived_or
  parents_asked ns n = ap (λ (w : Walked Row). lines_of false n.bytes w (lowest_vacant b (arrived_or 0 (walk_on (view b) ns 0)), n.bytes)) (walk_bytes f ns) ∙ go (walk_on (view b) ns 0)
    where
      go : (w : Walked ℕ) → lines_of false n.bytes (map_walked (row_at (page_count b) (view b)) w) (lowest_vacant b (arrived_or 0 w), n.bytes) ≡ opening_by b (in_walked w (λ q. arrived (q, n)))
      go (arrived t) = directory_asked t n
      go (missing i) = refl
      go (blocked i) = refl

-- ---- the lines of a make

-- all of them, by the path
abbrev asked : Bytes → (date : Bytes) → Path → Answer Place
asked b date p = settle (
    (is_no_path p, refusal 4)
    ∷ (not (good_date date), refusal 11)
    ∷ walk_lines (walk (parents p) (tree_of b).root) ++ (
    (is_root p || is_there (lookup (last_name p) (arrived_or end (walk (parents p) (tree_of b).root))), refusal 8)
    ∷ (eqb (held (arrived_or end (walk (parents p) (tree_of b).root))) (width (arrived_or end (walk (parents p) (tree_of b).root))), refusal 9)
    ∷ [])) refused (granted (lowest_vacant b (parent_page b p), last_name p))

module _ (b path date : Bytes) where
  is_asked : asked b date (path_of path) ≡ opening_walked b path date
  unfolding opening_walked RefusalOf.make_lines
  is_asked = refl

  -- the code says r of whether it is a path
  module _ (r : Bool) (told_path : r ≡ not (is_no_path (path_of path))) where
    pub no_path_lem : not r ≡ true → refused (refusal 4) ≡ opening_walked b path date
    unfolding settle
    no_path_lem e = (rw (not-false (is_no_path (path_of path)) (untold told_path e))) ∙ is_asked

    -- and g of the date
    module _ (e : not r ≡ false) (g : Bool) (told_date : g ≡ good_date date) where
      is_path_lem : not (is_no_path (path_of path)) ≡ true
      is_path_lem = is-told told_path e

      pub bad_date : not g ≡ true → refused (refusal 11) ≡ opening_walked b path date
      unfolding settle
      bad_date d = (rw (not-true (is_no_path (path_of path)) is_path_lem, untold told_date d)) ∙ is_asked

      module _ (d : not g ≡ false) where
        pub root_taken : length path ≡ 1 → refused (refusal 8) ≡ opening_walked b path date
        unfolding settle is_no_path is_root walk is_missing is_blocked arrived_or
        root_taken l = (rw (is-told told_date d)) ∙ ap (asked b date) (sym (path_root path is_path_lem l)) ∙ is_asked

        -- and by what is said of the parents
        module _ (s : T (sound b)) (low : length path ≡ 1 → ⊥) where
          by_parents : {w : Walked (ℕ × Name)} → w ≡ code.walked_parent b (path_of path) 0 → opening_by b w ≡ opening_walked b path date
          unfolding settle is_no_path is_root
          by_parents walked = let q = path_below path (two path r told_path e low) (subst T (sym is_path_lem) tt) in
              ap (opening_by b) (walked ∙ ap (λ (p : Path). code.walked_parent b p 0) q.2) ∙ below_asked q.0 q.1 ∙ ap (asked b date) (sym q.2) ∙ is_asked
            where
              below_asked : (ns : List Name) (n : Name) → opening_by b (code.walked_parent b (below ns n) 0) ≡ asked b date (below ns n)
              below_asked ns n = sym (rw (is-told told_date d) (parents_asked b (sound_facts_lem s) ns n))

          pub parent_in : (q : Parent) → parent_of path (Ok q) ≡ code.walked_parent b (path_of path) 0
              → {x : Answer Place} → x ≡ opening_named b q.directory.0 (code.name_in path q.begins (length path)) → x ≡ opening_walked b path date
          parent_in q walked last = last ∙ by_parents walked

          parent_stopped : (s : Stop) → stopped s ≡ code.walked_parent b (path_of path) 0 → refused (told (stopped_by s)) ≡ opening_walked b path date
          parent_stopped (Missing i) walked = by_parents walked
          parent_stopped (Blocked i) walked = by_parents walked

          pub parent_stops : (r : Result Opening Refusal) (w : Result Parent Stop) (s : Stop) → w ≡ Err s → parent_of path w ≡ code.walked_parent b (path_of path) 0
              → IsErrAnd r (λ y. y ≡ stopped_by s) → answered told (opened path) r ≡ opening_walked b path date
          parent_stops r w s is walked stop = told_on told (opened path) r (stopped_by s) stop (parent_stopped s (rw is at walked))

          pub parent_missing : {i : ℕ} → Unit {0} × (missing i ≡ code.walked_parent b (path_of path) 0) → refused (refusal_at 5 i) ≡ opening_walked b path date
          parent_missing walked = by_parents walked.1

          pub parent_blocked : {i : ℕ} → Unit {0} × (blocked i ≡ code.walked_parent b (path_of path) 0) → refused (refusal_at 6 i) ≡ opening_walked b path date
          parent_blocked walked = by_parents walked.1

-- ---- what the code asks of a sound image

module _ (b : Bytes) (s : T (sound b)) where
  -- the directory that a walk has come to lies in the image
  pub page_inside : (path : Bytes) (q : Parent) → parent_of path (Ok q) ≡ code.walked_parent b (path_of path) 0 → q.directory.0 < page_count b
  unfolding in_walked is_missing is_blocked
  page_inside path q walked = go (walk_on (view b) (parents (path_of path)) 0) refl walked
    where
      go : (v : Walked ℕ) → walk_on (view b) (parents (path_of path)) 0 ≡ v
          → ◌≡◌ {A = Walked (ℕ × Name)} (arrived (q.directory.0, code.name_in path q.begins (length path))) (in_walked v (λ t. arrived (t, code.last (path_of path))))
          → q.directory.0 < page_count b
      go (arrived t) come k =
          let l = leads b (sound_facts_lem s) (parents (path_of path)) t come in
          let pair : ◌≡◌ {A = ℕ × Name} (q.directory.0, code.name_in path q.begins (length path)) (t, code.last (path_of path)) = cc k in
          let same : q.directory.0 ≡ t = ap (λ (x : ℕ × Name). x.0) pair in
          omega (arith, same, (slot (sound_facts_lem s) (parents (path_of path)) (suc l.0) t _ l.1 (first_entry t)).page)
      go (missing i) come k = let bad : ◌≡◌ {A = Bool} true false = sym (ap is_missing k) in absurd (true≢false bad)
      go (blocked i) come k = let bad : ◌≡◌ {A = Bool} true false = sym (ap is_blocked k) in absurd (true≢false bad)

  pub few : page_count b ≤ 256
  few = (size (sound_facts_lem s)).high

  pub whole : page_size * page_count b ≡ length b
  whole = omega (arith, (size (sound_facts_lem s)).whole)

-- ---- the image

module _ (b path date : Bytes) where
  opening_judged : {j : Answer Verdict} → j ≡ judged_as b → judged_to refused (opening_walked b path date) j ≡ opening b path date
  unfolding opening opening_walked settle
  opening_judged judged = ap (judged_to refused (opening_walked b path date)) judged ∙ image_lines_lem b refused (opening_walked b path date)

  pub opening_sound : {v : Verdict} → granted v ≡ judged_as b → {x : Answer Place} → x ≡ opening_walked b path date → x ≡ opening b path date
  opening_sound judged w = w ∙ opening_judged judged

  pub opening_stopped : (r : Result Opening Refusal) (e : Refusal) → IsErrAnd r (λ y. y ≡ e) → refused (told e) ≡ judged_as b
      → answered told (opened path) r ≡ opening b path date
  opening_stopped r e stop judged = told_on told (opened path) r e stop (opening_judged judged)
