-- What a writing asks before the rows, by the base's calls: the date by a make of the root, which is always refused, with 11 or 8; the directory by its
-- listing, whose 5 and 6 stand below 11; and the old file by finding it.
use mathlib.Core.Path.{◌≡◌, refl, sym, ap, ◌∙◌, subst}
use mathlib.Core.Logic.{◌⊎◌, inl, inr}
use mathlib.Core.Bool.{Bool, true, false, not}
use mathlib.Core.Option.{Option, none, some}
use mathlib.Core.List.{[], ◌∷◌, ◌++◌}
use Prim.Native.Nat.{ℕ}
use lib.Dec.{T, eqb, leb-suc-zero}
use borrow.Author.Tests.{not-true, ne_eqb}
use Rattle.volume.specs.Bytes.{Bytes}
use Rattle.std.specs.Prelude.{if◌then◌else◌, Option as Maybe, Result, Ok, Err}
use Rattle.model.specs.Sound.{sound}
use Rattle.model.specs.Judge.{Judged, fault, clean, bad_entry, bad_chain, owned_twice, marked_free, lost_page, bad_count, judge}
use Rattle.model.specs.Date.{good_date}
use Rattle.model.specs.Tree.{Tree, Row, end, free_number, Node, file_node, directory_node, lookup}
use Rattle.model.specs.Image.{tree_of}
use Rattle.model.specs.Path.{Name, path_of, is_no_path, is_root, names}
use Rattle.model.specs.Walk.{Walked, arrived, missing, blocked, walk, node_named, in_walked, walk_to, arrived_or}
use Rattle.model.specs.Call.{Call, make_file, list, find, Kind, is_file, is_directory, Found, Listed, Refusal, refusal, refusal_at, Answer, refused, granted}
use Rattle.model.specs.Refusal.{is_missing, is_blocked, stopped_at, is_there, is_directory_node, is_locked_node, refusals, settle, Passes}
use Rattle.model.specs.Meaning.{image_lines, is_format, first_fault, lines, found_at, told, tree_answer, answer, after}
use Rattle.model.specs.MeaningOf
use Rattle.model.specs.RefusalOf
use Rattle.laws.proofs.Lines.{passed, granted_passed, not_granted, settle_append}
use Rattle.laws.proofs.Passed.{image_passed, sound_passed}
use Rattle.laws.proofs.Steps.{image_skip, as_tree_lem, untouched}
use Rattle.faults.specs.declared.Fault.TheVariants.{BadEntry, BadChain, OwnedTwice, MarkedFree, LostPage, BadCount}
use Rattle.refusals.specs.declared.Refusal.{Refusal as Base}
use Rattle.refusals.specs.declared.Refusal.TheVariants.{BadLength, BadHeader, Unsound, NoPath, BadDate, IsRoot, NoSuchName, NotADirectory, NameTaken, IsADirectory, Locked, PastEnd, DirectoryFull, NoFreePages, NotEmpty, NotAPage}
use Rattle.refusals.specs.Told.{told as base-told}
use Rattle.outcomes.specs.declared.Kind.{Kind as Told}
use Rattle.outcomes.specs.declared.Kind.TheVariants.{File, Directory}
use Rattle.outcomes.specs.declared.Found.{Found as Finding}
use Rattle.outcomes.specs.declared.Listed.{Listed as Listing}
use Rattle.outcomes.specs.Answers.{kind_of, listed_of}
use Rattle.answers.specs.Answers.{find_answer, list_answer}
use Rattle.link_list.specs.Links.{links_name, links_path, node_in, is_directory_there, is_locked_there, old_lines}
use Rattle.link_list.proofs.Rows.{holds}
use Rattle.link_list.proofs.Writing.{links_key, old_passed, links_named}
use Rattle.link_old.specs.Before.{DateJudged, date_first, directory_lines, old_file, old_settled}
use Rattle.link_files.proofs.Loading.{Keeps, settle_changed, directory_wide, There, arrives}

-- ---- the date

abbrev at_root : Bytes → Call
at_root date = make_file (0x2F ∷ []) date

make_root : (t : Tree) (date : Bytes) → tree_answer (at_root date) t ≡ refused (if good_date date then refusal 8 else refusal 11)
unfolding MeaningOf.tree_answer RefusalOf.refusals RefusalOf.earlier RefusalOf.later RefusalOf.wanted RefusalOf.make_lines settle path_of is_no_path is_root walk is_missing is_blocked
make_root t date = go (good_date date) refl
  where
    go : (z : Bool) → good_date date ≡ z → tree_answer (at_root date) t ≡ refused (if good_date date then refusal 8 else refusal 11)
    go true z = rw z refl
    go false z = rw z refl

root_refused : (b date : Bytes) → T (sound b) → answer (at_root date) b ≡ refused (if good_date date then refusal 8 else refusal 11)
root_refused b date h = (as_tree_lem (at_root date) b h).answered ∙ make_root (tree_of b) date

module _ (b date : Bytes) where
  pub date_judged : (f : Refusal) → refused f ≡ answer (make_file (0x2F ∷ []) date) b → DateJudged b date (not (eqb f.number 11))
  date_judged f e h =
      let q : f ≡ (if good_date date then refusal 8 else refusal 11) = cc (e ∙ root_refused b date h) in
      ap (λ (g : Refusal). not (eqb g.number 11)) q ∙ go (good_date date)
    where
      go : (z : Bool) → not (eqb (if z then refusal 8 else refusal 11).number 11) ≡ z
      go true = refl
      go false = refl

  pub root_never : granted tt ≡ answer (make_file (0x2F ∷ []) date) b → ⊥
  unfolding MeaningOf.answer is_format
  root_never e =
      let p = sound_passed (at_root date) b tt (granted_passed (lines (at_root date) b) tt tt (sym e)) in
      not_granted (e ∙ root_refused b date p.0)

  pub root_kept : (f : Refusal) → refused f ≡ answer (make_file (0x2F ∷ []) date) b → after (make_file (0x2F ∷ []) date) b ≡ b
  root_kept f e = (untouched (at_root date) b f (sym e)).image

-- any other refusal than that of the date has another number
pub not_dated : (r : Base) → (r ≡ BadDate → ⊥) → not (eqb (base-told r).number 11) ≡ true
not_dated BadLength x = refl
not_dated BadHeader x = refl
not_dated (Unsound (BadEntry d i)) x = refl
not_dated (Unsound (BadChain d i passed)) x = refl
not_dated (Unsound (OwnedTwice p)) x = refl
not_dated (Unsound (MarkedFree p)) x = refl
not_dated (Unsound (LostPage p)) x = refl
not_dated (Unsound BadCount) x = refl
not_dated NoPath x = refl
not_dated BadDate x = absurd (x refl)
not_dated IsRoot x = refl
not_dated (NoSuchName at) x = refl
not_dated (NotADirectory at) x = refl
not_dated NameTaken x = refl
not_dated IsADirectory x = refl
not_dated Locked x = refl
not_dated PastEnd x = refl
not_dated DirectoryFull x = refl
not_dated NoFreePages x = refl
not_dated NotEmpty x = refl
not_dated NotAPage x = refl

-- by the refusal of the make
module _ (b date : Bytes) (r : Base) (said : refused (base-told r) ≡ answer (make_file (0x2F ∷ []) date) b) (is-bad : Bool) where
  pub dated_bad : r ≡ BadDate → is-bad ≡ true → DateJudged b date (not is-bad)
  dated_bad e m h = ap not m ∙ ap (λ (q : Base). not (eqb (base-told q).number 11)) (sym e) ∙ date_judged b date (base-told r) said h

  pub dated_good : (r ≡ BadDate → ⊥) → is-bad ≡ false → DateJudged b date (not is-bad)
  dated_good e m h = ap not m ∙ sym (not_dated r e) ∙ date_judged b date (base-told r) said h

-- ---- 11 above 5 and 6

pub first_good : (good : Bool) (f : Refusal) → good ≡ true → f ≡ date_first good f
unfolding date_first
first_good good f e = rw e refl

pub first_walk : (good : Bool) (f : Refusal) → good ≡ false → (f.number ≡ 5) ⊎ (f.number ≡ 6) → refusal 11 ≡ date_first good f
unfolding date_first
first_walk good f e (inl k) = rw (e, k) refl
first_walk good f e (inr k) = rw (e, k) refl

-- other numbers stay as they are
kept_told : (good : Bool) (f : Refusal) → eqb f.number 5 ≡ false → eqb f.number 6 ≡ false → date_first good f ≡ f
unfolding date_first
kept_told true f x y = refl
kept_told false f x y = rw (x, y) refl

pub first_other : (good : Bool) (f : Refusal) → (f.number ≡ 5 → ⊥) → (f.number ≡ 6 → ⊥) → f ≡ date_first good f
first_other good f x y = sym (kept_told good f (ne_eqb f.number 5 x) (ne_eqb f.number 6 y))

-- a walk that did not arrive
pub first_stopped : (good : Bool) (r : Base) → good ≡ false → ((at : ℕ) × (r ≡ NoSuchName at)) ⊎ ((at : ℕ) × (r ≡ NotADirectory at)) → refusal 11 ≡ date_first good (base-told r)
first_stopped good r g (inl e) = first_walk good (base-told r) g (inl (ap (λ (q : Base). (base-told q).number) e.1))
first_stopped good r g (inr e) = first_walk good (base-told r) g (inr (ap (λ (q : Base). (base-told q).number) e.1))

-- what is refused otherwise stays as it is
pub first_stays : (good : Bool) (r : Base) → ((at : ℕ) → r ≡ NoSuchName at → ⊥) → ((at : ℕ) → r ≡ NotADirectory at → ⊥) → base-told r ≡ date_first good (base-told r)
first_stays good BadLength x y = sym (kept_told good _ refl refl)
first_stays good BadHeader x y = sym (kept_told good _ refl refl)
first_stays good (Unsound (BadEntry d i)) x y = sym (kept_told good _ refl refl)
first_stays good (Unsound (BadChain d i passed)) x y = sym (kept_told good _ refl refl)
first_stays good (Unsound (OwnedTwice p)) x y = sym (kept_told good _ refl refl)
first_stays good (Unsound (MarkedFree p)) x y = sym (kept_told good _ refl refl)
first_stays good (Unsound (LostPage p)) x y = sym (kept_told good _ refl refl)
first_stays good (Unsound BadCount) x y = sym (kept_told good _ refl refl)
first_stays good NoPath x y = sym (kept_told good _ refl refl)
first_stays good BadDate x y = sym (kept_told good _ refl refl)
first_stays good IsRoot x y = sym (kept_told good _ refl refl)
first_stays good (NoSuchName at) x y = absurd (x at refl)
first_stays good (NotADirectory at) x y = absurd (y at refl)
first_stays good NameTaken x y = sym (kept_told good _ refl refl)
first_stays good IsADirectory x y = sym (kept_told good _ refl refl)
first_stays good Locked x y = sym (kept_told good _ refl refl)
first_stays good PastEnd x y = sym (kept_told good _ refl refl)
first_stays good DirectoryFull x y = sym (kept_told good _ refl refl)
first_stays good NoFreePages x y = sym (kept_told good _ refl refl)
first_stays good NotEmpty x y = sym (kept_told good _ refl refl)
first_stays good NotAPage x y = sym (kept_told good _ refl refl)

-- ---- the directory is there

pub directory_there : (b d : Bytes) → Passes (image_lines b ++ directory_lines d (tree_of b)) → There b d
unfolding directory_lines
directory_there b d e =
    let i = image_passed b (directory_lines d (tree_of b)) e in
    let p1 = passed _ _ i.1 in
    let p2 = passed _ _ p1.1 in
    let p3 = passed _ _ p2.1 in
    let a = arrives b d (walk (names (path_of d)) (tree_of b).root) p2.0 p3.0 in
    record { is_sound = i.0; is_path = p1.0; row = a.0; leads = a.1 }

pub passed_there : (b d date : Bytes) → Passes (image_lines b ++ old_lines d date (tree_of b)) → There b d
passed_there b d date e =
    let i = image_passed b (old_lines d date (tree_of b)) e in
    let o = old_passed d date (tree_of b) i.1 in
    record { is_sound = i.0; is_path = o.is_path; row = o.row; leads = o.leads }

is_path_lem : (d : Bytes) → T (not (is_no_path (path_of d))) → is_no_path (path_of d) ≡ false
is_path_lem d h = not-true (is_no_path (path_of d)) (holds (not (is_no_path (path_of d))) h)

pub there_passes : (b d : Bytes) → There b d → Passes (image_lines b ++ directory_lines d (tree_of b))
unfolding directory_lines settle is_missing is_blocked
there_passes b d h = image_skip b h.is_sound some none (directory_lines d (tree_of b)) ∙ rw (h.leads, is_path_lem d h.is_path) refl

-- a listing that is not refused tells that it is there
pub listed_there : (a : Result (Maybe Listing) Base) → ((r : Base) → a ≡ Err r → ⊥) → (x : Listed) × (list_answer a ≡ granted x)
listed_there (Ok o) k = (listed_of o, refl)
listed_there (Err r) k = absurd (k r refl)

-- ---- the old file

abbrev pub told_old : Told → Answer Bool
told_old (File locked) = if locked then refused (refusal 25) else granted true
told_old Directory = refused (refusal 7)

abbrev pub old_found : Result Finding Base → Answer Bool
old_found (Ok f) = told_old f.kind
old_found (Err r) = granted false

kind_old : Kind → Answer Bool
kind_old (is_file locked) = if locked then refused (refusal 25) else granted true
kind_old is_directory = refused (refusal 7)

seen_old : Answer Found → Answer Bool
seen_old (refused f) = granted false
seen_old (granted x) = kind_old x.kind

said_kind : (k : Told) → told_old k ≡ kind_old (kind_of k)
unfolding kind_old
said_kind (File locked) = refl
said_kind Directory = refl

said_old : (a : Result Finding Base) → old_found a ≡ seen_old (find_answer a)
unfolding seen_old
said_old (Ok f) = said_kind f.kind
said_old (Err r) = refl

module _ (b d : Bytes) (h : There b d) where
  tree_old : seen_old (tree_answer (find (links_path d)) (tree_of b)) ≡ old_file d (tree_of b)
  unfolding MeaningOf.tree_answer RefusalOf.refusals RefusalOf.earlier RefusalOf.later RefusalOf.wanted settle MeaningOf.told is_no_path is_root walk_to in_walked arrived_or node_named is_missing is_blocked MeaningOf.found_at old_file is_there is_directory_there is_locked_there is_directory_node is_locked_node seen_old kind_old
  tree_old = rw ((links_named d h.is_path).1, h.leads, leb-suc-zero (free_number (tree_of b))) (go (lookup links_key h.row))
    where
      n : Name
      n = record { begins = (links_named d h.is_path).0; bytes = links_key }

      go : (o : Option Node) → seen_old (settle ((is_missing (node_named n o), refusal_at 5 (stopped_at (node_named n o))) ∷ (is_blocked (node_named n o), refusal_at 6 (stopped_at (node_named n o))) ∷ []) refused (granted (found_at (arrived_or (directory_node [] end) (node_named n o)))))
          ≡ settle ((is_directory_there o, refusal 7) ∷ (is_locked_there o, refusal 25) ∷ []) refused (granted (is_there o))
      go none = refl
      go (some (file_node l k w)) = refl
      go (some (directory_node k r)) = refl

  pub old_found_lem : (path : Bytes) → path ≡ links_path d → (a : Result Finding Base) → find_answer a ≡ answer (find path) b → old_found a ≡ old_file d (tree_of b)
  old_found_lem path is a e =
      said_old a ∙ ap seen_old (e ∙ ap (λ (p : Bytes). answer (find p) b) is ∙ (as_tree_lem (find (links_path d)) b h.is_sound).answered) ∙ tree_old

-- ---- all of it

fault_kept : (good : Bool) (j : Judged) → date_first good (first_fault j) ≡ first_fault j
fault_kept good (fault (bad_entry d i)) = kept_told good _ refl refl
fault_kept good (fault (bad_chain d i passed)) = kept_told good _ refl refl
fault_kept good (fault (owned_twice p)) = kept_told good _ refl refl
fault_kept good (fault (marked_free p)) = kept_told good _ refl refl
fault_kept good (fault (lost_page p)) = kept_told good _ refl refl
fault_kept good (fault bad_count) = kept_told good _ refl refl
fault_kept good (clean marks) = kept_told good _ refl refl

image_kept : (good : Bool) (b : Bytes) → Keeps (date_first good) (image_lines b)
image_kept good b = (kept_told good (refusal 1) refl refl, (kept_told good (refusal 2) refl refl, (fault_kept good (judge b), tt)))

-- a walk's number, told below the date's
over_walk : {A : Type 0} (good date_good : Bool) → good ≡ date_good → (r f : Refusal) → (r.number ≡ 5) ⊎ (r.number ≡ 6) → r ≡ f
    → ◌≡◌ {A = Answer A} (if not date_good then refused (refusal 11) else refused r) (refused (date_first good f))
over_walk {A} good date_good e r f k q = subst (λ (z : Bool). ◌≡◌ {A = Answer A} (if not z then refused (refusal 11) else refused r) (refused (date_first good f))) e (go good refl)
  where
    go : (z : Bool) → good ≡ z → ◌≡◌ {A = Answer A} (if not z then refused (refusal 11) else refused r) (refused (date_first good f))
    go true z = ap (λ (x : Refusal). refused x) (q ∙ first_good good f z)
    go false z = ap (λ (x : Refusal). refused x) (first_walk good f z (subst (λ (x : Refusal). (x.number ≡ 5) ⊎ (x.number ≡ 6)) q k))

module _ (b d date : Bytes) (good : Bool) (judged : DateJudged b date good) where
  walk_stops : {A B : Type 0} (x : A) (y : B) (f : Refusal) → T (sound b) → settle (refusals (list d 0) (tree_of b)) refused (granted x) ≡ refused f
      → settle (old_lines d date (tree_of b)) refused (granted y) ≡ refused (date_first good f)
  unfolding RefusalOf.refusals RefusalOf.earlier RefusalOf.later RefusalOf.wanted old_lines settle is_missing is_blocked stopped_at arrived_or
  walk_stops {A} {B} x y f h e = go (is_no_path (path_of d)) refl
    where
      go : (z : Bool) → is_no_path (path_of d) ≡ z → settle (old_lines d date (tree_of b)) refused (granted y) ≡ refused (date_first good f)
      go true z = let u = rw z at e in let q : refusal 4 ≡ f = cc u in rw z (ap (λ (r : Refusal). refused r) (sym (kept_told good (refusal 4) refl refl) ∙ ap (date_first good) q))
      go false z = to (walk (names (path_of d)) (tree_of b).root) refl
        where
          to : (w : Walked Row) → walk (names (path_of d)) (tree_of b).root ≡ w → settle (old_lines d date (tree_of b)) refused (granted y) ≡ refused (date_first good f)
          to (missing i) w = let u = rw (z, w) at e in let q : refusal_at 5 i ≡ f = cc u in rw (z, w) (over_walk good (good_date date) (judged h) (refusal_at 5 i) f (inl refl) q)
          to (blocked i) w = let u = rw (z, w) at e in let q : refusal_at 6 i ≡ f = cc u in rw (z, w) (over_walk good (good_date date) (judged h) (refusal_at 6 i) f (inr refl) q)
          to (arrived s) w = absurd (not_granted (rw (z, w, directory_wide b h (names (path_of d)) s w, leb-suc-zero (free_number (tree_of b))) at e))

  pub old_stops : (f q : Refusal) → q ≡ date_first good f → refused f ≡ answer (list d 0) b → refused q ≡ old_settled d date b
  unfolding MeaningOf.answer MeaningOf.lines is_format old_settled
  old_stops f q k e =
      let t = tree_of b in
      let x = told (list d 0) t in
      let y : Bool = is_there (node_in d links_name t) in
      ap (λ (r : Refusal). refused r) k ∙ sym (settle_append refused (image_lines b) (old_lines d date t) (granted y)
      ∙ settle_changed (date_first good) (image_lines b) (image_kept good b) (settle (refusals (list d 0) t) refused (granted x)) (settle (old_lines d date t) refused (granted y)) f
      (sym (settle_append refused (image_lines b) (refusals (list d 0) t) (granted x)) ∙ sym e)
      (λ p q. walk_stops x y f (image_passed b [] p).0 q))

  pub old_undated : There b d → good ≡ false → refused (refusal 11) ≡ old_settled d date b
  unfolding old_settled old_lines settle
  old_undated h e = sym (image_skip b h.is_sound refused (granted (is_there (node_in d links_name (tree_of b)))) (old_lines d date (tree_of b)) ∙ rw (is_path_lem d h.is_path, sym (judged h.is_sound) ∙ e) refl)

  pub old_dated : There b d → good ≡ true → old_file d (tree_of b) ≡ old_settled d date b
  unfolding old_settled old_lines old_file settle is_missing is_blocked
  old_dated h e =
      sym (image_skip b h.is_sound refused (granted (is_there (node_in d links_name (tree_of b)))) (old_lines d date (tree_of b))
      ∙ rw (is_path_lem d h.is_path, sym (judged h.is_sound) ∙ e, h.leads) refl)
