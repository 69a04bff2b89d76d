-- The makes: behind the lines that find the opening stands that of the free pages, which counts the page that a full directory gets; past it the entry goes
-- into the vacant one, or into the first of the new page.
use mathlib.Core.Path.{◌≡◌, refl, sym, ap, ◌∙◌, subst}
use Prim.Native.Nat.{ℕ, suc}
use mathlib.Core.Bool.{Bool, true, false, not, ◌&&◌, ◌||◌}
use mathlib.Core.Option.{Option, none, some, get_or, map}
use mathlib.Core.List.{List, [], ◌∷◌, ◌++◌}
use lib.ListN.{length}
use lib.Dec.{T, ltb}
use Rattle.volume.specs.Bytes.{Bytes, put}
use Rattle.std.specs.Prelude.{if◌then◌else◌}
use Rattle.volume.specs.Geometry as On
use Rattle.volume.proofs.Tests.{not_not}
use Rattle.model.specs.Date.{good_date}
use Rattle.model.specs.Name.{legal_name}
use Rattle.model.specs.View.{View, EntryLayout}
use Rattle.model.specs.Tree.{Row, end, is_full, Node, lookup}
use Rattle.model.specs.Path.{Name, Path, no_path, root, below, path_of, is_no_path, is_root, parents, last_name}
use Rattle.model.specs.Image.{row_at, tree_in}
use Rattle.model.specs.Walk.{Walked, arrived, walk, entry_named, walk_on, arrived_or}
use Rattle.model.specs.EffectOf.{lowest_vacant, lengthened, lengthened_if_full, roomy, made_in, made}
use Rattle.model.specs.Call.{make_file, make_directory, Refusal, refusal, Answer, refused, granted}
use Rattle.model.specs.Version.{Version}
use Rattle.model.specs.RefusalOf.{Line, is_missing, is_blocked, is_there, parent_row, free_in, make_wants, wanted, make_lines, earlier, later, refusals, settle, Passes}
use Rattle.model.specs.MeaningOf.{told, is_format, sound, tree_of, image_lines, effect, answer, after}
use Rattle.view_laws.proofs.Facts.{Facts}
use Rattle.view_laws.proofs.Walks.{node_of, lookup_named, parent}
use Rattle.version_laws.proofs.Lines.{passed, settle_append, settle_both}
use Rattle.version_laws.proofs.Names.{last_legal, date_length}
use Rattle.version_laws.proofs.Passed.{image_passed}
use Rattle.version_laws.proofs.Steps.{sound_facts_lem}
use Rattle.arrivals.specs.Places.{numbers_on}
use Rattle.arrivals.specs.Openings.{Opening, is_none, vacancy_in, wanted_by, found, opening, make_settled, make_answer, make_after}
use Rattle.arrivals.proofs.Settled.{opened, settle_opened, settle_granted, behind_image, if_sound}
use Rattle.arrivals.proofs.Vacancies.{directory_full}

-- ---- the calls

module _ (w : Version) (b path date : Bytes) where
  pub make_file_answer : make_answer w b path date ((numbers_on w b).pages_for 0) ≡ answer w (make_file path date) b
  unfolding make_settled answer is_format refusals earlier later wanted told tree_in
  make_file_answer =
      settle_append refused (image_lines w b) (refusals w (make_file path date) (tree_of w b)) (granted tt)
      ∙ sym (behind_image w b refused (make_file path date) refl (granted tt))

  pub make_directory_answer : make_answer w b path date 1 ≡ answer w (make_directory path date) b
  unfolding make_settled answer is_format refusals earlier later wanted told
  make_directory_answer =
      settle_append refused (image_lines w b) (refusals w (make_directory path date) (tree_of w b)) (granted tt)
      ∙ sym (behind_image w b refused (make_directory path date) refl (granted tt))

  -- the view of an image and its tree have the same numbers
  pub make_file_after : (w.see b).numbers.pages_for 0 ≡ (numbers_on w b).pages_for 0
      → make_after w 0x80 0 ((numbers_on w b).pages_for 0) b path date ≡ after w (make_file path date) b
  unfolding make_settled after is_format refusals earlier later wanted effect tree_in
  make_file_after e =
      let x : ℕ → Bytes = λ k. made w.entry w.see 0x80 0 k (path_of path) date b in
      let ls : List Line = refusals w (make_file path date) (tree_of w b) in
      settle_append (λ m. b) (image_lines w b) ls (x ((numbers_on w b).pages_for 0))
      ∙ ap (λ (k : ℕ). settle (image_lines w b) (λ m. b) (settle ls (λ m. b) (x k))) (sym e)
      ∙ sym (behind_image w b (λ m. b) (make_file path date) refl (made w.entry w.see 0x80 0 ((w.see b).numbers.pages_for 0) (path_of path) date b))

  pub make_directory_after : make_after w 0x81 (w.see b).numbers.page_size 1 b path date ≡ after w (make_directory path date) b
  unfolding make_settled after is_format refusals earlier later wanted effect
  make_directory_after =
      let x : Bytes = made w.entry w.see 0x81 (w.see b).numbers.page_size 1 (path_of path) date b in
      settle_append (λ m. b) (image_lines w b) (refusals w (make_directory path date) (tree_of w b)) x
      ∙ sym (behind_image w b (λ m. b) (make_directory path date) refl x)

-- ---- what the lines of a make have passed

-- the opening is in a directory that the names but the last lead to, in which no entry has the last
pub record Opened (w : Version) (b path date : Bytes) (o : Opening) : Type 0 where
  pub is_sound : T (sound w b)
  pub facts : Facts (w.see b)
  pub passes : Passes (make_lines w path date (tree_of w b))
  pub ns : List Name
  pub n : Name
  pub is : path_of path ≡ below ns n
  pub walked : walk_on (w.see b) ns 0 ≡ arrived o.directory
  pub vacancy : o.vacancy ≡ vacancy_in (w.see b) o.directory
  pub name : o.name ≡ n.bytes
  pub new : entry_named (w.see b) o.directory n.bytes ≡ none
  pub full : is_full (parent_row path (tree_of w b)) ≡ is_none o.vacancy
  pub legal : T (legal_name n.bytes)
  pub long : length n.bytes ≡ 16
  pub dated : length date ≡ 8

neither : (c d : Bool) → T (not (c || d)) → T (not c) × T (not d)
neither true d h = absurd h
neither false d h = (tt, h)

-- a row that has no entry of a name
unnamed : (v : View) (p d : ℕ) (n : Bytes) → T (not (is_there (lookup n (row_at (suc d) v p)))) → entry_named v p n ≡ none
unfolding is_there
unnamed v p d n h = go (entry_named v p n) (subst (λ (x : Option Node). T (not (is_there x))) (lookup_named v d p n) h)
  where
    go : (q : Option ℕ) → T (not (is_there (map (λ at. node_of v (row_at d v) (v.entry_at at)) q))) → q ≡ none
    go none u = refl
    go (some at) u = absurd u

module _ (w : Version) (b path date : Bytes) where
  abbrev v : View
  v = w.see b

  abbrev top : Row
  top = row_at (w.see b).pages (w.see b) 0

  lines_opened : T (sound w b) → Passes (make_lines w path date (tree_of w b)) → Opened w b path date (found (w.see b) (path_of path))
  unfolding make_lines tree_in arrived_or is_no_path is_root
  lines_opened h e =
      let p1 = passed _ _ e in
      let p2 = passed _ _ p1.1 in
      let p3 = passed _ _ p2.1 in
      let p4 = passed _ _ p3.1 in
      let p5 = passed _ _ p4.1 in
      let o = neither (is_root (path_of path)) _ p5.0 in
      go (path_of path) refl p1.0 o.0 p3.0 p4.0 o.1 (date_length date (not_not (good_date date) p2.0))
    where
      go : (p : Path) → path_of path ≡ p → T (not (is_no_path p)) → T (not (is_root p)) → T (not (is_missing (walk (parents p) top)))
          → T (not (is_blocked (walk (parents p) top)))
          → T (not (is_there (lookup (last_name p) (arrived_or end (walk (parents p) top))))) → length date ≡ 8 → Opened w b path date (found v (path_of path))
      go no_path q a c m k t d = absurd a
      go root q a c m k t d = absurd c
      go (below ns n) q a c m k t d =
          let above = parent (sound_facts_lem w b h).formed m k in
          let named = last_legal path ns n q in
          subst (λ (p : Path). Opened w b path date (found v p)) (sym q) (record {
            is_sound = h;
            facts = sound_facts_lem w b h;
            passes = e;
            ns = ns;
            n = n;
            is = q;
            walked = above.page ∙ ap (λ (x : Walked ℕ). arrived (arrived_or 0 x)) (sym above.page);
            vacancy = refl;
            name = refl;
            new = subst (λ (x : Walked ℕ). entry_named v (arrived_or 0 x) n.bytes ≡ none) (sym above.page)
                (unnamed v above.t above.e n.bytes (subst (λ (x : Walked Row). T (not (is_there (lookup n.bytes (arrived_or end x))))) above.row t));
            full = ap (λ (p : Path). is_full (arrived_or end (walk (parents p) top))) q ∙ ap (λ (x : Walked Row). is_full (arrived_or end x)) above.row
                ∙ directory_full above.e v above.t ∙ ap (λ (x : Walked ℕ). is_none (vacancy_in v (arrived_or 0 x))) (sym above.page);
            legal = named.0;
            long = named.1;
            dated = d;
          })

  granted_found : {o : Opening} → granted o ≡ opening w b path date
      → Passes (image_lines w b ++ make_lines w path date (tree_of w b)) × (o ≡ found v (path_of path))
  unfolding opening
  granted_found {o} e =
      let two = settle_granted (image_lines w b ++ make_lines w path date (tree_of w b)) (granted (found v (path_of path))) o e in
      (two.0, cc two.1)

  pub opening_granted : {o : Opening} → granted o ≡ opening w b path date → Opened w b path date o
  opening_granted {o} e =
      let two = granted_found e in
      let r = image_passed w b (make_lines w path date (tree_of w b)) two.0 in
      subst (Opened w b path date) (sym two.1) (lines_opened r.0 r.1)

  -- ---- the line of the free pages, and the image

  module _ (k : ℕ) where
    abbrev space : Opening → List Line
    space o = (ltb (free_in w (tree_of w b)) (wanted_by (numbers_on w b).grows k o), refusal 10) ∷ []

    make_placed : {A : Type 0} (f : Refusal → A) (x : A) → make_settled w b path date k f x ≡ opened f (λ o. settle (space o) f x) (opening w b path date)
    unfolding make_settled opening tree_in
    make_placed {A} f x =
        let ms : List Line = make_lines w path date (tree_of w b) in
        let wants : List Line = (ltb (free_in w (tree_of w b)) (make_wants w path k (tree_of w b)), refusal 10) ∷ [] in
        let o : Opening = found v (path_of path) in
        let y : Opening → A = λ o. settle (space o) f x in
        let same : T (sound w b) → settle (ms ++ wants) f x ≡ settle ms f (settle (space o) f x) = λ h.
        settle_append f ms wants x
        ∙ settle_both (λ (p q : A). p ≡ q) ms f (settle wants f x) f (settle (space o) f x) (λ r. refl) (λ passes.
        ap (λ (c : Bool). settle ((ltb (free_in w (tree_of w b)) (if (numbers_on w b).grows && c then suc k else k), refusal 10) ∷ []) f x) (lines_opened h passes).full) in
        settle_append f (image_lines w b) (ms ++ wants) x
        ∙ if_sound w b f same
        ∙ sym (settle_append f (image_lines w b) ms (settle (space o) f x))
        ∙ sym (settle_opened f y (image_lines w b ++ ms) (granted o))

    -- a refusal leaves the image as it is
    abbrev pub MakeRefuses : (flags z : ℕ) → Refusal → Type 0
    MakeRefuses flags z m = (refused m ≡ make_answer w b path date k) × (b ≡ make_after w flags z k b path date)

    at_place : {A : Type 0} (f : Refusal → A) (x : A) {a : Answer Opening} → a ≡ opening w b path date
        → opened f (λ o. settle (space o) f x) a ≡ make_settled w b path date k f x
    at_place f x e = ap (opened f (λ o. settle (space o) f x)) e ∙ sym (make_placed f x)

    pub make_refused : (flags z : ℕ) {m : Refusal} → refused m ≡ opening w b path date → MakeRefuses flags z m
    make_refused flags z e = (at_place refused (granted (tt {0})) e, at_place (λ m. b) (made w.entry w.see flags z k (path_of path) date b) e)

    -- the code says q of whether pages are lacking
    module _ {o : Opening} (e : granted o ≡ opening w b path date) {free : ℕ} (counts : free ≡ free_in w (tree_of w b))
        {q : Bool} (counted : q ≡ ltb free (wanted_by (numbers_on w b).grows k o)) where
      told_so : ltb (free_in w (tree_of w b)) (wanted_by (numbers_on w b).grows k o) ≡ q
      told_so = ap (λ (n : ℕ). ltb n (wanted_by (numbers_on w b).grows k o)) (sym counts) ∙ sym counted

      pub make_lacking : (flags z : ℕ) → q ≡ true → MakeRefuses flags z (refusal 10)
      unfolding settle
      make_lacking flags z lacks =
          let l = told_so ∙ lacks in
          (rw l at (at_place refused (granted (tt {0})) e), rw l at (at_place (λ m. b) (made w.entry w.see flags z k (path_of path) date b) e))

      pub make_done : (flags z : ℕ) → q ≡ false → {b' : Bytes}
          → b' ≡ made_in w.entry flags z k o.name date o.directory (w.see (roomy w.entry (w.see b) o.directory))
          → (granted (tt {0}) ≡ make_answer w b path date k) × (b' ≡ make_after w flags z k b path date)
      unfolding settle made
      make_done flags z fits is =
          let l = told_so ∙ fits in (
            rw l at (at_place refused (granted (tt {0})) e),
            is ∙ ap (λ (x : Opening). made_in w.entry flags z k x.name date x.directory (w.see (roomy w.entry (w.see b) x.directory))) (granted_found e).1
                ∙ (rw l at (at_place (λ m. b) (made w.entry w.see flags z k (path_of path) date b) e)),
          )

-- ---- the new entry

module _ (l : EntryLayout) (see : Bytes → View) (b : Bytes) (flags z k : ℕ) (name date : Bytes) (p : ℕ) where
  room_there : {at : ℕ} → some at ≡ vacancy_in (see b) p → roomy l (see b) p ≡ (see b).bytes
  unfolding lengthened_if_full
  room_there {at} here = go (see b).numbers.grows
    where
      go : (grows : Bool) → (if grows then lengthened_if_full l (see b) p (vacancy_in (see b) p) else (see b).bytes) ≡ (see b).bytes
      go true = ap (lengthened_if_full l (see b) p) (sym here)
      go false = refl

  -- it goes into a vacant one
  pub made_vacant : see (see b).bytes ≡ see b → {at : ℕ} → some at ≡ vacancy_in (see b) p
      → On.grown (see b).geometry (see b).pages k (l.start_field at) (put at (l.new_entry flags name z date) (see b).bytes)
      ≡ made_in l flags z k name date p (see (roomy l (see b) p))
  unfolding lowest_vacant
  made_vacant again {at} here =
      ap (λ (o : Option ℕ). On.grown (see b).geometry (see b).pages k (l.start_field (get_or o 0)) (put (get_or o 0) (l.new_entry flags name z date) (see b).bytes)) here
      ∙ ap (λ (u : View). made_in l flags z k name date p u) (sym (ap see (room_there here) ∙ again))

  -- or into the first of the page that its directory gets
  pub made_grown : (see b).numbers.grows ≡ true → none ≡ vacancy_in (see b) p
      → made_in l flags z k name date p (see (lengthened l (see b) p)) ≡ made_in l flags z k name date p (see (roomy l (see b) p))
  unfolding lengthened_if_full
  made_grown grows full = rw (grows, ← full)
