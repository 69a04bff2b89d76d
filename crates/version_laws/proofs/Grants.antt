-- A granted call of a version does to the bytes what it does to the tree and leaves a sound image: the lines that it passed are what the version's own laws of
-- its changes ask.
use mathlib.Core.Path.{◌≡◌, refl, sym, subst}
use Prim.Native.Nat.{ℕ, ◌+◌, ◌-◌, ◌≤◌, max}
use mathlib.Core.Bool.{Bool, false, not}
use mathlib.Core.List.{List, []}
use lib.ListN.{length}
use lib.Dec.{T}
use Rattle.volume.specs.Bytes.{Bytes, put}
use Rattle.model.specs.Tree.{Row, file, dir, Node, empty_row, held, placed, rewrite, relock, vacate}
use Rattle.model.specs.Path.{Name, Path, below, path_of, last_name}
use Rattle.model.specs.Walk.{arrived, walk_to}
use Rattle.model.specs.EffectOf.{file_made, directory_made, written, removed, relocked}
use Rattle.model.specs.Call.{format_as, verdict, find, list, read, make_file, make_directory, write, remove_file, remove_directory, set_lock, store_as, refusal}
use Rattle.model.specs.Version.{Version, Calls}
use Rattle.model.specs.RefusalOf.{is_missing, is_blocked, is_directory_node, content_in, row_in, node, numbers_for, free_in, wanted, earlier, later, refusals, Passes}
use Rattle.model.specs.MeaningOf.{sound, in_parent, tree_of, changed, effect}
use Rattle.version_laws.proofs.Passed.{Clear, Leads, make_passed, write_passed, remove_file_passed, remove_directory_passed, lock_passed}

module _ (w : Version) where
  -- the image is sound, and means the tree with f done in the parent directory
  abbrev pub Says : Bytes → Path → (Row → Row) → Bytes → Type 0
  Says b p f b' = T (sound w b') × (tree_of w b' ≡ in_parent p f (tree_of w b))

  abbrev pub Found : Bytes → List Name → Name → Type 0
  Found b ns n = T (not (is_missing (walk_to (below ns n) (tree_of w b).root))) × T (not (is_blocked (walk_to (below ns n) (tree_of w b).root)))

  -- What a version owes of each change of a sound image, at a path of a last name.
  pub record Changes : Type 0 where
    pub formats : (new : w.New) (b : Bytes) → T (sound w b) → Passes (refusals w (format_as new) (tree_of w b))
        → T (sound w (w.formatted new b)) × (tree_of w (w.formatted new b) ≡ changed w (format_as new) (tree_of w b))
    pub makes_file : (b : Bytes) → T (sound w b) → (ns : List Name) (n : Name) (date : Bytes) → Clear w (tree_of w b) ns n date ((numbers_for w (tree_of w b)).pages_for 0)
        → Says b (below ns n) (placed (numbers_for w (tree_of w b)) (file false n.bytes date [])) (file_made w.entry w.see (below ns n) date b)
    pub makes_directory : (b : Bytes) → T (sound w b) → (ns : List Name) (n : Name) (date : Bytes) → Clear w (tree_of w b) ns n date 1
        → Says b (below ns n) (placed (numbers_for w (tree_of w b)) (dir n.bytes date (empty_row (numbers_for w (tree_of w b)).page_entries)))
        (directory_made w.entry w.see (below ns n) date b)
    pub writes : (b : Bytes) → T (sound w b) → (ns : List Name) (n : Name) (from : ℕ) (v : Bytes) → Found b ns n
        → (x : Node) → walk_to (below ns n) (tree_of w b).root ≡ arrived x → T (not (is_directory_node x)) → from ≤ length (content_in x)
        → (numbers_for w (tree_of w b)).pages_for (max (length (content_in x)) (from + length v)) - (numbers_for w (tree_of w b)).pages_for (length (content_in x)) ≤ free_in w (tree_of w b)
        → Says b (below ns n) (rewrite n.bytes (put from v (content_in x))) (written w.entry w.see (below ns n) from v b)
    pub removes : (b : Bytes) → T (sound w b) → (ns : List Name) (n : Name) → Found b ns n
        → ((x : Node) → walk_to (below ns n) (tree_of w b).root ≡ arrived x → held (row_in x) ≤ 0)
        → Says b (below ns n) (vacate n.bytes) (removed w.see (below ns n) b)
    pub locks : (b : Bytes) → T (sound w b) → (ns : List Name) (n : Name) (locked : Bool) → Found b ns n
        → ((x : Node) → walk_to (below ns n) (tree_of w b).root ≡ arrived x → T (not (is_directory_node x)))
        → Says b (below ns n) (relock n.bytes locked) (relocked w.see (below ns n) locked b)

  module _ (g : Changes) where
    removal : (b : Bytes) → T (sound w b) → {path : Bytes} → (r : (l : Leads (tree_of w b) path) × ((x : Node) → walk_to (below l.ns l.n) (tree_of w b).root ≡ arrived x → held (row_in x) ≤ 0))
        → Says b (path_of path) (vacate (last_name (path_of path))) (removed w.see (path_of path) b)
    removal b h r =
        let l = r.0 in
        subst (λ (p : Path). Says b p (vacate (last_name p)) (removed w.see p b)) (sym l.is) (g.removes b h l.ns l.n (l.reached, l.entered) r.1)

    pub granted_law : (c : Calls w) (b : Bytes) → T (sound w b) → Passes (refusals w c (tree_of w b)) → T (sound w (effect w c b)) × (tree_of w (effect w c b) ≡ changed w c (tree_of w b))
    unfolding effect changed refusals earlier later wanted
    granted_law (format_as new) b h e = g.formats new b h e
    granted_law verdict b h e = (h, refl)
    granted_law (find path) b h e = (h, refl)
    granted_law (list path i) b h e = (h, refl)
    granted_law (read path at room) b h e = (h, refl)
    granted_law (make_file path date) b h e =
        let m = make_passed w (refusal 10) e in
        subst (λ (p : Path). Says b p (placed (numbers_for w (tree_of w b)) (file false (last_name p) date [])) (file_made w.entry w.see p date b)) (sym m.is) (g.makes_file b h m.ns m.n date m.clear)
    granted_law (make_directory path date) b h e =
        let m = make_passed w (refusal 10) e in
        subst (λ (p : Path). Says b p (placed (numbers_for w (tree_of w b)) (dir (last_name p) date (empty_row (numbers_for w (tree_of w b)).page_entries))) (directory_made w.entry w.see p date b)) (sym m.is)
        (g.makes_directory b h m.ns m.n date m.clear)
    granted_law (write path from v) b h e =
        let q = write_passed w v e in
        let l = q.at in
        subst (λ (p : Path). Says b p (rewrite (last_name p) (put from v (content_in (node path (tree_of w b))))) (written w.entry w.see p from v b)) (sym l.is)
        (g.writes b h l.ns l.n from v (l.reached, l.entered) (node path (tree_of w b)) q.leads q.is_file q.begins q.space)
    granted_law (remove_file path) b h e = removal b h (remove_file_passed w e)
    granted_law (remove_directory path) b h e = removal b h (remove_directory_passed w e)
    granted_law (set_lock locked path) b h e =
        let r = lock_passed w locked e in
        let l = r.0 in
        subst (λ (p : Path). Says b p (relock (last_name p) locked) (relocked w.see p locked b)) (sym l.is) (g.locks b h l.ns l.n locked (l.reached, l.entered) r.1)
    granted_law (store_as has path date v k buffer) b h e = (h, refl)
