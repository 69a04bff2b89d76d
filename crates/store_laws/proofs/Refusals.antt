-- What a store is refused with: what make is refused with, then what write is on the image that make leaves, and only then its own 12.
use mathlib.Core.Path.{◌≡◌, refl, sym, ap, ◌∙◌, subst}
use mathlib.Core.Logic.{◌⊎◌, inl, inr}
use Prim.Native.Nat.{ℕ, ◌≤◌, ◌<◌}
use native.Mathlib.Omega.{arith}
use mathlib.Core.Bool.{Bool, true, false, not}
use mathlib.Core.Option.{Option, none, some, some-ne-none}
use mathlib.Core.List.{List, [], ◌∷◌, ◌++◌}
use lib.ListN.{length}
use borrow.Author.Tests.{eq-eqb}
use lib.Dec.{T, eqb, leb, ltb, leb→le, ltb→lt, lt→ltb}
use Rattle.volume.specs.Bytes.{Bytes}
use Rattle.std.specs.Prelude.{if◌then◌else◌}
use Rattle.model.specs.Layout.{pages_for}
use Rattle.model.specs.Sound.{sound}
use Rattle.model.specs.Tree.{free_number}
use Rattle.model.specs.Path.{Path, path_of}
use Rattle.model.specs.Image.{tree_of}
use Rattle.model.specs.Effect.{file_made}
use Rattle.model.specs.Call.{make_file, write, store, Refusal, refusal, Answer, refused, granted}
use Rattle.model.specs.Refusal.{Line, make_lines, refusals, settle, Passes}
use Rattle.model.specs.Meaning.{image_lines, is_format, lines, answer, after}
use Rattle.laws.proofs.Facts.{Facts, sound_facts_lem}
use Rattle.laws.proofs.Lines.{passes_left, settle_open, settle_skip, settle_holds, settle_append, not_granted}
use Rattle.laws.proofs.Passed.{image_passed, Makes, make_passed}
use Rattle.laws.proofs.Steps.{settled, as_tree_lem}
use Rattle.model.specs.Store.{store_count, store_at}
use Rattle.model.specs.MeaningOf
use Rattle.model.specs.RefusalOf
use Rattle.store_laws.proofs.Made.{first_pages}
use Rattle.store_laws.proofs.Granted.{write_full}
use Rattle.store_laws.proofs.Calls.{Opens, opens_first, after_made, write_granted}

no_lines : Passes []
unfolding settle
no_lines = refl

settle_first : {A : Type 0} (ls : List Line) (r : Refusal) (f : Refusal → A) (x : A) → settle ls some none ≡ some r → settle ls f x ≡ f r
unfolding settle
settle_first [] r f x e = absurd (some-ne-none r (sym e))
settle_first {A} (l ∷ ls) r f x e = go l.0 l.1 e (settle_first ls r f x)
  where
    go : (c : Bool) (s : Refusal) → (if c then some s else settle ls some none) ≡ some r → (settle ls some none ≡ some r → settle ls f x ≡ f r) → (if c then f s else settle ls f x) ≡ f r
    go true s u next = ap f (cc u)
    go false s u next = next u

-- a refusal is of the first lines, or these pass and it is of the others
module _ {A B : Type 0} (ls ms ns : List Line) (x : A) (y : B) (r : Refusal) where
  refused_both : settle (ls ++ ms) refused (granted x) ≡ refused r → (settle ms refused (granted x) ≡ refused r → settle ns refused (granted y) ≡ refused r)
      → settle (ls ++ ns) refused (granted y) ≡ refused r
  refused_both e h = settle_append refused ls ns (granted y) ∙ go (settle ls some none) refl
    where
      go : (o : Option Refusal) → settle ls some none ≡ o → settle ls refused (settle ns refused (granted y)) ≡ refused r
      go none u =
          settle_open ls refused (settle ns refused (granted y)) u
          ∙ h (sym (settle_open ls refused (settle ms refused (granted x)) u) ∙ sym (settle_append refused ls ms (granted x)) ∙ e)
      go (some s) u =
          settle_first ls s refused (settle ns refused (granted y)) u
          ∙ (let q : ◌≡◌ {A = Answer A} (refused s) (refused r) = sym (settle_first ls s refused (settle ms refused (granted x)) u) ∙ sym (settle_append refused ls ms (granted x)) ∙ e in
          let same : s ≡ r = cc in ap {B = Answer B} (λ z. refused z) same)

-- fewer pages free than an empty file wants are fewer than any wants
space_both : {A B : Type 0} (free k j : ℕ) (past : Line) (x : A) (y : B) (r : Refusal) → k ≤ j
    → settle ((ltb free k, refusal 10) ∷ []) refused (granted x) ≡ refused r → settle ((ltb free j, refusal 10) ∷ past ∷ []) refused (granted y) ≡ refused r
unfolding settle
space_both {A} {B} free k j past x y r l = go (ltb free k) (ltb free j) (λ t. lt→ltb free j (omega (arith, ltb→lt free k t, l)))
  where
    go : (c d : Bool) → (T c → T d) → (if c then refused (refusal 10) else granted x) ≡ refused r
        → (if d then refused (refusal 10) else settle (past ∷ []) refused (granted y)) ≡ refused r
    go true true h e = let same : refusal 10 ≡ r = cc e in ap {B = Answer B} (λ z. refused z) same
    go true false h e = absurd (h tt)
    go false d h e = absurd (not_granted e)

module _ (path date v : Bytes) (k : ℕ) (buffer b : Bytes) (r : Refusal) (lent : length buffer ≡ 256) where
  -- the image's lines and make's
  abbrev above : List Line
  above = image_lines b ++ make_lines path date (tree_of b)

  abbrev own : List Line
  own = (ltb (free_number (tree_of b)) (pages_for (length v)), refusal 10) ∷ (leb (store_count (path_of path) v) k, refusal 12) ∷ []

  abbrev page : ℕ
  page = (store_at k (path_of path) date v b).page

  buffer_fits : answer (store path date v k buffer) b ≡ settle (above ++ own) refused (granted page)
  unfolding MeaningOf.answer MeaningOf.lines is_format RefusalOf.refusals RefusalOf.earlier RefusalOf.later RefusalOf.wanted settle
  buffer_fits = rw (eq-eqb (length buffer) 256 lent)

  pub store_like_make : answer (make_file path date) b ≡ refused r → answer (store path date v k buffer) b ≡ refused r
  unfolding MeaningOf.answer MeaningOf.lines is_format RefusalOf.refusals RefusalOf.earlier RefusalOf.later RefusalOf.wanted MeaningOf.told
  store_like_make e =
      let ms : List Line = (ltb (free_number (tree_of b)) (pages_for 0), refusal 10) ∷ [] in
      buffer_fits
      ∙ refused_both above ms own tt page r
      e
      (space_both (free_number (tree_of b)) (pages_for 0) (pages_for (length v)) (leb (store_count (path_of path) v) k, refusal 12) tt page r (first_pages (length v)))

  -- what passes where a call is granted
  granted_passes : (ls : List Line) → ◌≡◌ {A = Answer (Unit {0})} (settle ls refused (granted tt)) (granted tt) → Passes ls
  granted_passes ls e = go (settle ls some none) refl
    where
      go : (o : Option Refusal) → settle ls some none ≡ o → o ≡ none
      go none u = refl
      go (some s) u = absurd (not_granted (sym e ∙ settle_first ls s refused (granted tt) u))

  -- what a granted make says
  module _ (e : answer (make_file path date) b ≡ granted tt) where
    abbrev few : List Line
    few = (ltb (free_number (tree_of b)) (pages_for 0), refusal 10) ∷ []

    making : Passes (above ++ few)
    unfolding MeaningOf.answer MeaningOf.lines is_format RefusalOf.refusals RefusalOf.earlier RefusalOf.later RefusalOf.wanted MeaningOf.told
    making = granted_passes (lines (make_file path date) b) e

    clear : T (sound b) × Passes (make_lines path date (tree_of b) ++ few)
    clear = image_passed b (make_lines path date (tree_of b) ++ few) making

    f : Facts b
    f = sound_facts_lem clear.0

    makes : Makes b path date (pages_for 0)
    makes = make_passed f (refusal 10) clear.1

    made_after : after (make_file path date) b ≡ file_made (path_of path) date b
    made_after = after_made b path date clear.0 clear.1

    -- no page for the content: both say 10
    write_lacks : T (ltb (free_number (tree_of b)) (pages_for (length v))) → answer (write path 0 v) (after (make_file path date) b) ≡ refused (refusal 10)
    unfolding MeaningOf.answer MeaningOf.told
    write_lacks h =
        ap (λ (x : Bytes). settle (lines (write path 0 v) x) refused (granted tt)) made_after
        ∙ settled (file_made (path_of path) date b) (subst (λ (x : Bytes). T (sound x)) made_after (as_tree_lem (make_file path date) b clear.0).is_sound) refused (granted tt) (write path 0 v)
        ∙ subst (λ (p : Path). ◌≡◌ {A = Answer (Unit {0})} (settle (refusals (write path 0 v) (tree_of (file_made p date b))) refused (granted tt)) (refused (refusal 10))) (sym makes.is)
        (write_full b f makes.ns makes.n date [] makes.clear path v makes.is (ltb→lt (free_number (tree_of b)) (pages_for (length v)) h))

    -- the store's own two lines are left
    own_left : answer (store path date v k buffer) b ≡ settle own refused (granted page)
    own_left =
        buffer_fits ∙ settle_append refused above own (granted page)
        ∙ settle_open above refused (settle own refused (granted page)) (passes_left above few making)

    -- after a granted make the write is refused for want of pages alone, and so is the store
    pub store_like_write : answer (write path 0 v) (after (make_file path date) b) ≡ refused r → answer (store path date v k buffer) b ≡ refused r
    store_like_write u = go (ltb (free_number (tree_of b)) (pages_for (length v))) refl
      where
        go : (c : Bool) → ltb (free_number (tree_of b)) (pages_for (length v)) ≡ c → answer (store path date v k buffer) b ≡ refused r
        go true h =
            let t : T (ltb (free_number (tree_of b)) (pages_for (length v))) = subst (λ (x : Bool). T x) (sym h) tt in
            let same : refusal 10 ≡ r = let q : ◌≡◌ {A = Answer (Unit {0})} (refused (refusal 10)) (refused r) = sym (write_lacks t) ∙ u in cc in
            own_left
            ∙ settle_holds refused (ltb (free_number (tree_of b)) (pages_for (length v))) (refusal 10) ((leb (store_count (path_of path) v) k, refusal 12) ∷ []) (granted page) t
            ∙ ap {B = Answer ℕ} (λ z. refused z) same
        go false h =
            let o : Opens path date v 0 buffer b = opens_first path date v buffer b lent clear.0 (passes_left (make_lines path date (tree_of b)) few clear.1) h in
            absurd (not_granted (sym (write_granted path date v 0 buffer b o) ∙ u))

    -- and where both are granted, it can only be refused by its number
    pub store_past : answer (store path date v k buffer) b ≡ refused r → (answer (write path 0 v) (after (make_file path date) b) ≡ refused r) ⊎ ((r ≡ refusal 12) × (store_count (path_of path) v ≤ k))
    store_past u = go (ltb (free_number (tree_of b)) (pages_for (length v))) (leb (store_count (path_of path) v) k) refl refl (sym own_left ∙ u)
      where
        go : (c d : Bool) → ltb (free_number (tree_of b)) (pages_for (length v)) ≡ c → leb (store_count (path_of path) v) k ≡ d
            → settle own refused (granted page) ≡ refused r
            → (answer (write path 0 v) (after (make_file path date) b) ≡ refused r) ⊎ ((r ≡ refusal 12) × (store_count (path_of path) v ≤ k))
        go true d h y w =
            let t : T (ltb (free_number (tree_of b)) (pages_for (length v))) = subst (λ (x : Bool). T x) (sym h) tt in
            let held = settle_holds {A = Answer ℕ} refused (ltb (free_number (tree_of b)) (pages_for (length v))) (refusal 10) ((leb (store_count (path_of path) v) k, refusal 12) ∷ []) (granted page) t in
            let same : refusal 10 ≡ r = let q : ◌≡◌ {A = Answer ℕ} (refused (refusal 10)) (refused r) = sym held ∙ w in cc in
            inl (write_lacks t ∙ ap {B = Answer (Unit {0})} (λ z. refused z) same)
        go false true h y w =
            let t : T (leb (store_count (path_of path) v) k) = subst (λ (x : Bool). T x) (sym y) tt in
            let skipped = settle_skip {A = Answer ℕ} refused (ltb (free_number (tree_of b)) (pages_for (length v))) (refusal 10) ((leb (store_count (path_of path) v) k, refusal 12) ∷ []) (granted page)
            (subst (λ (x : Bool). T (not x)) (sym h) tt) in
            let held = settle_holds {A = Answer ℕ} refused (leb (store_count (path_of path) v) k) (refusal 12) [] (granted page) t in
            let same : refusal 12 ≡ r = let q : ◌≡◌ {A = Answer ℕ} (refused (refusal 12)) (refused r) = sym held ∙ sym skipped ∙ w in cc in
            inr (sym same, leb→le (store_count (path_of path) v) k t)
        go false false h y w =
            let skipped = settle_skip {A = Answer ℕ} refused (ltb (free_number (tree_of b)) (pages_for (length v))) (refusal 10) ((leb (store_count (path_of path) v) k, refusal 12) ∷ []) (granted page)
            (subst (λ (x : Bool). T (not x)) (sym h) tt) in
            let last = settle_skip {A = Answer ℕ} refused (leb (store_count (path_of path) v) k) (refusal 12) [] (granted page) (subst (λ (x : Bool). T (not x)) (sym y) tt) in
            absurd (not_granted (sym (skipped ∙ last ∙ settle_open {A = Answer ℕ} [] refused (granted page) no_lines) ∙ w))
