-- The bytes of LINKS by the base's calls: listing the directory refuses as the file's lines do before the file is asked for, and reading the file has
-- the same lines but two that never hold.
use mathlib.Core.Path.{◌≡◌, refl, sym, ap, ◌∙◌, subst}
use mathlib.Core.Logic.{◌⊎◌, inl, inr}
use Prim.Native.Nat.{ℕ, suc, ◌+◌, ◌*◌, ◌≤◌, ◌<◌}
use native.Mathlib.Omega.{arith}
use mathlib.Core.Bool.{Bool, true, false, not}
use mathlib.Core.Option.{Option, none, some}
use mathlib.Core.List.{List, [], ◌∷◌, ◌++◌, map}
use lib.ListN.{length, take, drop, length-take}
use lib.Seq.{take_all, take-append_seam}
use lib.Dec.{T, eqb, leb, leb-suc-zero}
use borrow.Author.Tests.{not-true}
use Rattle.volume.specs.Bytes.{Bytes, put}
use Rattle.std.specs.Prelude.{if◌then◌else◌, Result, Ok, Err, IsErrAnd}
use Rattle.std.proofs.lemmas.Result.{err_from_is_err_and}
use Rattle.volume.specs.Lists.{count_from}
use Rattle.model.specs.Entry.{entries_start, entries, Entry, vacant, a_file, a_directory, entry_at}
use Rattle.model.specs.Version1.{view}
use Rattle.model.specs.Sound.{sound}
use Rattle.model.specs.Tree.{Row, end, width, free_number, Node, file_node, directory_node, lookup}
use Rattle.model.specs.Image.{entry_row, row_of, row_at, tree_of, tree_in}
use Rattle.model.specs.Path.{Name, Path, below, path_of, is_no_path, is_root, names}
use Rattle.model.specs.Walk.{Walked, arrived, missing, blocked, walk, node_named, in_walked, walk_to, arrived_or}
use Rattle.model.specs.Call.{Call, list, read, Listed, Refusal, refusal, refusal_at, Answer, refused, granted}
use Rattle.model.specs.Refusal.{Line, is_missing, is_blocked, stopped_at, content_in, node, refusals, settle, Passes}
use Rattle.model.specs.Meaning.{image_lines, is_format, lines, told, filled, answer, buffer_after}
use Rattle.model.specs.MeaningOf
use Rattle.model.specs.RefusalOf
use Rattle.laws.proofs.Lines.{passed, granted_passed, not_granted, settle_append, settle_refused}
use Rattle.laws.proofs.Passed.{image_passed, sound_passed}
use Rattle.laws.proofs.Facts.{sound_facts_lem}
use Rattle.laws.proofs.Walks.{parent}
use Rattle.family.proofs.Onward.{OneMore}
use Rattle.link_list.specs.Links.{links_name, links_path, file_lines}
use Rattle.link_list.proofs.Rows.{holds}
use Rattle.link_list.proofs.Writing.{links_key, links_named, settle_passed}
use Rattle.answers.specs.Answers.{read_answer}
use Rattle.refusals.specs.declared.Refusal.{Refusal as Base}
use Rattle.refusals.specs.Told.{told as base-told}
use Rattle.link_files.specs.Loaded.{file_loaded, Loads}
use Rattle.link_files.proofs.Depth.{file_short}

-- a change of refusals that keeps those of these lines
abbrev pub Keeps : (Refusal → Refusal) → List Line → Type 0
Keeps g [] = Unit {0}
Keeps g (l ∷ ls) = (g l.1 ≡ l.1) × Keeps g ls

-- the same lines above, and what stands below them refuses alike but for the change
pub settle_changed : {A B : Type 0} (g : Refusal → Refusal) (ls : List Line) → Keeps g ls → (y : Answer A) (z : Answer B) (f : Refusal) → settle ls refused y ≡ refused f
    → (Passes ls → y ≡ refused f → z ≡ refused (g f)) → settle ls refused z ≡ refused (g f)
unfolding settle
settle_changed g [] w y z f e k = k refl e
settle_changed {A} {B} g (l ∷ ls) w y z f e k = go l.0 e k (settle_changed g ls w.1 y z f)
  where
    go : (c : Bool) → (if c then refused l.1 else settle ls refused y) ≡ refused f
        → ((if c then some l.1 else settle ls some none) ≡ none → y ≡ refused f → z ≡ refused (g f))
        → (settle ls refused y ≡ refused f → (Passes ls → y ≡ refused f → z ≡ refused (g f)) → settle ls refused z ≡ refused (g f))
        → (if c then refused l.1 else settle ls refused z) ≡ refused (g f)
    go true u v next = let q : l.1 ≡ f = cc u in ap (λ (r : Refusal). refused r) (sym w.0 ∙ ap g q)
    go false u v next = next u v

-- ---- a directory has entries

entry_wide : (b : Bytes) (g : ℕ → Row) (e : Entry) (rest : Row) → width (entry_row (view b) g e rest) ≡ suc (width rest)
unfolding entry_row width
entry_wide b g vacant rest = refl
entry_wide b g (a_file locked name date start size) rest = refl
entry_wide b g (a_directory name date start size) rest = refl

row_wide : (b : Bytes) (g : ℕ → Row) (p : ℕ) → leb (width (row_of (view b) g (entries p))) 0 ≡ false
unfolding entries count_from row_of
row_wide b g p = go (eqb p 0)
  where
    first : Entry
    first = entry_at b (entries_start p + 32 * 0)

    others : ℕ → Row
    others n = row_of (view b) g (map (λ i. entries_start p + 32 * i) (count_from 1 n))

    go : (z : Bool) → leb (width (row_of (view b) g (map (λ i. entries_start p + 32 * i) (count_from 0 (if z then 6 else 8))))) 0 ≡ false
    go true = ap (λ (n : ℕ). leb n 0) (entry_wide b g first (others 5)) ∙ leb-suc-zero (width (others 5))
    go false = ap (λ (n : ℕ). leb n 0) (entry_wide b g first (others 7)) ∙ leb-suc-zero (width (others 7))

pub directory_wide : (b : Bytes) → T (sound b) → (ns : List Name) (s : Row) → walk ns (tree_of b).root ≡ arrived s → leb (width s) 0 ≡ false
unfolding tree_in row_at is_missing is_blocked
directory_wide b h ns s e =
    let p = parent (sound_facts_lem h) (subst (λ (w : Walked Row). T (not (is_missing w))) (sym e) tt) (subst (λ (w : Walked Row). T (not (is_blocked w))) (sym e) tt) in
    let row : row_at (suc p.e) (view b) p.t ≡ s = cc (sym p.row ∙ e) in
    subst (λ (r : Row). leb (width r) 0 ≡ false) row (row_wide b (row_at p.e (view b)) p.t)

-- ---- a walk to a name goes through its directory

inner : (ns : List Name) (n : Name) (r : Row) → T (not (is_missing (walk_to (below ns n) r))) → T (not (is_blocked (walk_to (below ns n) r))) → (s : Row) × (walk ns r ≡ arrived s)
unfolding walk_to in_walked is_missing is_blocked
inner ns n r u v = go (walk ns r) refl u v
  where
    go : (w : Walked Row) → walk ns r ≡ w → T (not (is_missing (in_walked w (λ s. node_named n (lookup n.bytes s))))) → T (not (is_blocked (in_walked w (λ s. node_named n (lookup n.bytes s)))))
        → (s : Row) × (walk ns r ≡ arrived s)
    go (arrived s) e u v = (s, e)
    go (missing i) e u v = absurd u
    go (blocked i) e u v = absurd v

-- ---- listing the directory

module _ (b d : Bytes) where
  stops : {A B : Type 0} (x : A) (y : B) (f : Refusal) → T (sound b) → settle (refusals (list d 0) (tree_of b)) refused (granted x) ≡ refused f
      → settle (file_lines d (tree_of b)) refused (granted y) ≡ refused f
  unfolding RefusalOf.refusals RefusalOf.earlier RefusalOf.later RefusalOf.wanted file_lines settle is_no_path is_root walk_to in_walked is_missing is_blocked stopped_at arrived_or
  stops {A} {B} x y f h e = go (is_no_path (path_of d)) refl
    where
      same : (r : Refusal) → ◌≡◌ {A = Answer A} (refused r) (refused f) → ◌≡◌ {A = Answer B} (refused r) (refused f)
      same r u = let q : r ≡ f = cc u in ap (λ (k : Refusal). refused k) q

      go : (z : Bool) → is_no_path (path_of d) ≡ z → settle (file_lines d (tree_of b)) refused (granted y) ≡ refused f
      go true z = rw z (same (refusal 4) (rw z at e))
      go false z = to (walk (names (path_of d)) (tree_of b).root) refl
        where
          m : OneMore (names (path_of d)) links_name (path_of (links_path d))
          m = links_named d (subst (λ (c : Bool). T (not c)) (sym z) tt)

          to : (w : Walked Row) → walk (names (path_of d)) (tree_of b).root ≡ w → settle (file_lines d (tree_of b)) refused (granted y) ≡ refused f
          to (missing i) w = rw (z, m.1, w) (same (refusal_at 5 i) (rw (z, w) at e))
          to (blocked i) w = rw (z, m.1, w) (same (refusal_at 6 i) (rw (z, w) at e))
          to (arrived s) w = absurd (not_granted (rw (z, w, directory_wide b h (names (path_of d)) s w, leb-suc-zero (free_number (tree_of b))) at e))

  pub list_stops : (f : Refusal) → refused f ≡ answer (list d 0) b → refused f ≡ file_loaded d b
  unfolding MeaningOf.answer MeaningOf.lines is_format file_loaded
  list_stops f e =
      let t = tree_of b in
      let x = told (list d 0) t in
      let y : Bytes = content_in (node (links_path d) t) in
      sym (settle_append refused (image_lines b) (file_lines d t) (granted y)
      ∙ settle_changed (λ r. r) (image_lines b) (refl, (refl, (refl, tt))) (settle (refusals (list d 0) t) refused (granted x)) (settle (file_lines d t) refused (granted y)) f
      (sym (settle_append refused (image_lines b) (refusals (list d 0) t) (granted x)) ∙ sym e)
      (λ p q. stops x y f (image_passed b [] p).0 q))

  -- the directory is there
  pub record There : Type 0 where
    pub is_sound : T (sound b)
    pub is_path : T (not (is_no_path (path_of d)))
    pub row : Row
    pub leads : walk (names (path_of d)) (tree_of b).root ≡ arrived row

  pub arrives : (w : Walked Row) → T (not (is_missing w)) → T (not (is_blocked w)) → (s : Row) × (w ≡ arrived s)
  unfolding is_missing is_blocked
  arrives (arrived s) u v = (s, refl)
  arrives (missing i) u v = absurd u
  arrives (blocked i) u v = absurd v

  pub passes_there : Passes (image_lines b ++ file_lines d (tree_of b)) → There
  unfolding file_lines
  passes_there e =
      let i = image_passed b (file_lines d (tree_of b)) e in
      let p1 = passed _ _ i.1 in
      let p2 = passed _ _ p1.1 in
      let p3 = passed _ _ p2.1 in
      let m = links_named d p1.0 in
      let a = inner _ _ (tree_of b).root (subst (λ (q : Path). T (not (is_missing (walk_to q (tree_of b).root)))) m.1 p2.0) (subst (λ (q : Path). T (not (is_blocked (walk_to q (tree_of b).root)))) m.1 p3.0) in
      record { is_sound = i.0; is_path = p1.0; row = a.0; leads = a.1 }

  pub list_arrives : (x : Listed) → granted x ≡ answer (list d 0) b → There
  unfolding MeaningOf.answer RefusalOf.refusals RefusalOf.earlier is_format
  list_arrives x e =
      let p = sound_passed (list d 0) b tt (granted_passed (lines (list d 0) b) _ x (sym e)) in
      let p1 = passed _ _ p.1 in
      let p2 = passed _ _ p1.1 in
      let p3 = passed _ _ p2.1 in
      let a = arrives (walk (names (path_of d)) (tree_of b).root) p2.0 p3.0 in
      record { is_sound = p.0; is_path = p1.0; row = a.0; leads = a.1 }

  -- ---- reading the file

  module _ (is_path : T (not (is_no_path (path_of d)))) (buffer : Bytes) where
    own_lines : {A : Type 0} (g : Refusal → A) (x : A) → settle (refusals (read (links_path d) 0 buffer) (tree_of b)) g x ≡ settle (file_lines d (tree_of b)) g x
    unfolding RefusalOf.refusals RefusalOf.earlier RefusalOf.later RefusalOf.wanted file_lines settle is_no_path
    own_lines g x =
        rw (leb-suc-zero (length (content_in (node (links_path d) (tree_of b)))), leb-suc-zero (free_number (tree_of b)))
        (rw ((links_named d is_path).1, not-true (is_no_path (path_of d)) (holds (not (is_no_path (path_of d))) is_path)) refl)

    same_lines : {A : Type 0} (g : Refusal → A) (x : A) → settle (lines (read (links_path d) 0 buffer) b) g x ≡ settle (image_lines b ++ file_lines d (tree_of b)) g x
    unfolding MeaningOf.lines is_format
    same_lines g x =
        settle_append g (image_lines b) (refusals (read (links_path d) 0 buffer) (tree_of b)) x
        ∙ ap (settle (image_lines b) g) (own_lines g x)
        ∙ sym (settle_append g (image_lines b) (file_lines d (tree_of b)) x)

    pub read_refused : (f : Refusal) → refused f ≡ answer (read (links_path d) 0 buffer) b → refused f ≡ file_loaded d b
    unfolding MeaningOf.answer file_loaded
    read_refused f e =
        sym (sym (same_lines refused (granted (content_in (node (links_path d) (tree_of b)))))
        ∙ settle_refused (lines (read (links_path d) 0 buffer) b) _ f refused (granted (content_in (node (links_path d) (tree_of b)))) (sym e))

    -- a granted reading tells that the directory is there
    read_there : Passes (lines (read (links_path d) 0 buffer) b) → There
    read_there p = passes_there (sym (same_lines some none) ∙ p)

  module _ (h : There) (buffer : Bytes) where
    content_short : length (content_in (node (links_path d) (tree_of b))) ≤ 65025
    unfolding walk_to in_walked node_named arrived_or content_in
    content_short = rw ((links_named d h.is_path).1, h.leads) (go (lookup links_key h.row) refl)
      where
        go : (o : Option Node) → lookup links_key h.row ≡ o → length (content_in (arrived_or (directory_node [] end) (node_named (record { begins = (links_named d h.is_path).0; bytes = links_key }) o))) ≤ 65025
        go none l = omega arith
        go (some (directory_node k r)) l = omega arith
        go (some (file_node k date v)) l = file_short b h.is_sound (names (path_of d)) h.row links_key k date v h.leads l

    pub read_copied : (n : ℕ) → granted n ≡ answer (read (links_path d) 0 buffer) b → (buffer' : Bytes) → buffer' ≡ buffer_after (read (links_path d) 0 buffer) b → Loads d b buffer' (length buffer) (Ok n)
    unfolding MeaningOf.answer MeaningOf.buffer_after file_loaded MeaningOf.told MeaningOf.filled
    read_copied n e buffer' q = (omega (arith, size, length-take (length buffer) v), whole)
      where
        c : Call
        c = read (links_path d) 0 buffer

        v : Bytes
        v = content_in (node (links_path d) (tree_of b))

        p : Passes (lines c b)
        p = granted_passed (lines c b) _ n (sym e)

        size : n ≡ length (take (length buffer) v)
        size = let k : n ≡ length (take (length buffer) v) = cc (e ∙ settle_passed (lines c b) refused (granted (told c (tree_of b))) p) in k

        short : (n < length buffer) ⊎ (65025 ≤ length buffer) → length v ≤ length buffer
        short (inl l) = omega (arith, size, length-take (length buffer) v)
        short (inr l) = omega (arith, content_short)

        whole : (n < length buffer) ⊎ (65025 ≤ length buffer) → granted (take n buffer') ≡ settle (image_lines b ++ file_lines d (tree_of b)) refused (granted v)
        whole enough =
            let all : take (length buffer) v ≡ v = take_all (length buffer) v (short enough) in
            let bytes : buffer' ≡ put 0 v buffer = q ∙ settle_passed (lines c b) (λ f. buffer) (filled c (tree_of b)) p ∙ ap (λ (w : Bytes). put 0 w buffer) all in
            let back : take n buffer' ≡ v = ap (λ (k : ℕ). take k buffer') (size ∙ ap length all) ∙ ap (take (length v)) bytes ∙ take-append_seam v (drop (0 + length v) buffer) in
            ap (λ (w : Bytes). granted w) back ∙ sym (sym (same_lines h.is_path buffer refused (granted v)) ∙ settle_passed (lines c b) refused (granted v) p)

-- ---- what reading's answer says

pub path_read : (len : ℕ) (path zeros v : Bytes) → len ≡ length v → path ≡ put 0 v zeros → take len path ≡ v
path_read len path zeros v l e = ap (λ (n : ℕ). take n path) l ∙ ap (take (length v)) e ∙ take-append_seam v (drop (0 + length v) zeros)

read_as : (b d : Bytes) → T (not (is_no_path (path_of d))) → (buffer : Bytes) (r : Result ℕ Base) → read_answer r ≡ answer (read (links_path d) 0 buffer) b
    → (buffer' : Bytes) → buffer' ≡ buffer_after (read (links_path d) 0 buffer) b → Loads d b buffer' (length buffer) r
unfolding MeaningOf.answer
read_as b d is_path buffer (Ok n) a buffer' q = read_copied b d (read_there b d is_path buffer (granted_passed (lines (read (links_path d) 0 buffer) b) _ n (sym a))) buffer n a buffer' q
read_as b d is_path buffer (Err r) a buffer' q = read_refused b d is_path buffer (base-told r) a

pub read_loads : (b d : Bytes) → T (not (is_no_path (path_of d))) → (path buffer : Bytes) → path ≡ links_path d → (r : Result ℕ Base) → read_answer r ≡ answer (read path 0 buffer) b
    → (buffer' : Bytes) → buffer' ≡ buffer_after (read path 0 buffer) b → Loads d b buffer' (length buffer) r
read_loads b d is_path path buffer is r answers buffer' q =
    read_as b d is_path buffer r (answers ∙ ap (λ (p : Bytes). answer (read p 0 buffer) b) is) buffer' (q ∙ ap (λ (p : Bytes). buffer_after (read p 0 buffer) b) is)

-- ---- the exit of a `?`

pub loads_told_on : (d b v : Bytes) (room : ℕ) (r : Result ℕ Base) (x : Base) → IsErrAnd r (λ y. y ≡ x) → refused (base-told x) ≡ file_loaded d b → Loads d b v room r
loads_told_on d b v room r x is e = let p = err_from_is_err_and r is in rw (p.1, p.2) e
