-- The two removals: the root is refused before the walk, but the path `/` leads to it all the same; that of a file refuses a directory and a locked file, and
-- that of a directory a file, as the walk would, and asks whether it holds anything.
use mathlib.Core.Path.{◌≡◌, refl, sym, ap, ◌∙◌}
use Prim.Native.Nat.{ℕ, ◌-◌}
use mathlib.Core.Bool.{Bool, true, false, not, true≢false}
use mathlib.Core.List.{List, [], ◌∷◌, ◌++◌, foldl}
use lib.ListN.{set}
use lib.Dec.{T, ltb, leb-suc-zero}
use Rattle.volume.specs.Bytes.{Bytes}
use Rattle.std.specs.Prelude.{if◌then◌else◌}
use Rattle.volume.specs.Lists.{all}
use Rattle.volume.specs.Chain.{chain}
use Rattle.volume.specs.Geometry as On
use Rattle.model.specs.Entry.{a_file, a_directory}
use Rattle.model.specs.View.{View, next}
use Rattle.model.specs.Sound.{pages_of}
use Rattle.model.specs.Tree.{Row, end, held, Node, directory_node}
use Rattle.model.specs.Path.{Name, Path, no_path, root, below, path_of, is_no_path, is_root, names}
use Rattle.model.specs.Image.{row_at, tree_in}
use Rattle.model.specs.Walk.{Walked, arrived, missing, blocked, walk, in_walked, walk_to, arrived_or}
use Rattle.model.specs.EffectOf.{removed}
use Rattle.model.specs.Call.{remove_file, remove_directory, Refusal, refusal, refusal_at, Answer, refused, granted}
use Rattle.model.specs.Version.{Version}
use Rattle.model.specs.RefusalOf.{walk_lines, is_missing, is_blocked, stopped_at, is_directory_node, is_locked_node, wanted, free_in, space_line, earlier, later, refusals, settle}
use Rattle.model.specs.MeaningOf.{told, is_format, sound, tree_of, lines, effect, answer, after}
use Rattle.view_laws.proofs.Walks.{map_walked, walk_bytes}
use Rattle.version_laws.proofs.Steps.{sound_facts_lem}
use Rattle.arrivals.specs.Places.{Spot, the_root, the_file, the_directory, lock_in, located, walked_answer, placed}
use Rattle.arrivals.proofs.Arrivals.{node_at, file_node_lem, directory_node_lem, deep, walk_located, At, located_at, EntryOf}
use Rattle.arrivals.proofs.Entries.{entered, walk_entered, entry_position}
use Rattle.arrivals.proofs.Settled.{Reads, Refuses, opened, placed_arrived, by_place}
use Rattle.arrivals.proofs.Vacancies.{vacancy, directory_holds}

-- what a call does at a place: f of a refusal, or x
abbrev pub remove_file_at : {A : Type 0} → View → (Refusal → A) → A → Spot → A
remove_file_at v f x the_root = f (refusal 14)
remove_file_at v f x (the_file at begins start size) = if lock_in (v.entry_at at) then f (refusal 25) else x
remove_file_at v f x (the_directory at begins start size) = f (refusal 7)

abbrev pub remove_directory_at : {A : Type 0} → View → (Refusal → A) → A → Spot → A
remove_directory_at v f x the_root = f (refusal 14)
remove_directory_at v f x (the_file at begins start size) = f (refusal_at 6 begins)
remove_directory_at v f x (the_directory at begins start size) = if all (vacancy v) (v.entries start) then x else f (refusal 13)

not_root : (ns : List Name) (n : Name) → below ns n ≡ root → ⊥
unfolding is_root
not_root ns n q = let bad : ◌≡◌ {A = Bool} true false = sym (ap is_root q) in true≢false bad

module _ {w : Version} (reads : Reads w) {A : Type 0} (b path : Bytes) (f : Refusal → A) (x : A) where
  -- the lines behind that of the root
  abbrev file_lines_of : Walked Node → A
  file_lines_of l = settle (walk_lines l ++ (
      (is_directory_node (arrived_or (directory_node [] end) l), refusal 7)
      ∷ (is_locked_node (arrived_or (directory_node [] end) l), refusal 25)
      ∷ space_line w (remove_file path) (tree_of w b)
      ∷ [])) f x

  walk_file : (p : Path) → (p ≡ root → ⊥)
      → file_lines_of (map_walked (node_at (w.see b)) (located (w.see b) p)) ≡ opened f (remove_file_at (w.see b) f x) (walked_answer (located (w.see b) p))
  unfolding settle is_missing is_blocked stopped_at arrived_or map_walked walked_answer wanted is_directory_node is_locked_node
  walk_file p low = go (located (w.see b) p) refl
    where
      go : (l : Walked Spot) → located (w.see b) p ≡ l
          → file_lines_of (map_walked (node_at (w.see b)) l) ≡ opened f (remove_file_at (w.see b) f x) (walked_answer l)
      go (arrived the_root) e = absurd (low (located_at (w.see b) p the_root e))
      go (arrived (the_file at begins start k)) e =
          let a : At (w.see b) p (the_file at begins start k) = located_at (w.see b) p (the_file at begins start k) e in
          rw (file_node_lem (w.see b) at begins start k a.1, leb-suc-zero (free_in w (tree_of w b)))
      go (arrived (the_directory at begins start k)) e =
          let a : At (w.see b) p (the_directory at begins start k) = located_at (w.see b) p (the_directory at begins start k) e in
          rw (directory_node_lem (w.see b) at begins start k a.1)
      go (missing i) e = refl
      go (blocked i) e = refl

  remove_file_placed : settle (lines w (remove_file path) b) f x ≡ opened f (remove_file_at (w.see b) f x) (placed w b path)
  unfolding is_format refusals earlier later settle is_no_path is_root located walked_answer tree_in
  remove_file_placed = by_place w b path f (remove_file path) refl x (remove_file_at (w.see b) f x) (λ h. go h (path_of path))
    where
      go : T (sound w b) → (p : Path)
          → (if is_no_path p then f (refusal 4) else if is_root p then f (refusal 14) else file_lines_of (walk_to p (row_at (w.see b).pages (w.see b) 0)))
          ≡ (if is_no_path p then f (refusal 4) else opened f (remove_file_at (w.see b) f x) (walked_answer (located (w.see b) p)))
      go h no_path = refl
      go h root = refl
      go h (below ns n) =
          ap file_lines_of (walk_located (w.see b) (reads.readable b h).headed (sound_facts_lem w b h).formed (below ns n)) ∙ walk_file (below ns n) (not_root ns n)

  abbrev directory_lines_of : Walked Row → A
  directory_lines_of l = settle (walk_lines l ++ (space_line w (remove_directory path) (tree_of w b) ∷ (ltb 0 (held (arrived_or end l)), refusal 13) ∷ [])) f x

  walk_directory : (p : Path) → (p ≡ root → ⊥) → T (sound w b)
      → directory_lines_of (map_walked (row_at (w.see b).pages (w.see b)) (in_walked (located (w.see b) p) entered))
      ≡ opened f (remove_directory_at (w.see b) f x) (walked_answer (located (w.see b) p))
  unfolding settle is_missing is_blocked stopped_at arrived_or map_walked in_walked entered walked_answer wanted
  walk_directory p low h = go (located (w.see b) p) refl
    where
      flip : (c : Bool) → (if not c then f (refusal 13) else x) ≡ (if c then x else f (refusal 13))
      flip true = refl
      flip false = refl

      go : (l : Walked Spot) → located (w.see b) p ≡ l
          → directory_lines_of (map_walked (row_at (w.see b).pages (w.see b)) (in_walked l entered))
          ≡ opened f (remove_directory_at (w.see b) f x) (walked_answer l)
      go (arrived the_root) e = absurd (low (located_at (w.see b) p the_root e))
      go (arrived (the_file at begins start k)) e = refl
      go (arrived (the_directory at begins start k)) e =
          rw (
            leb-suc-zero (free_in w (tree_of w b)),
            ap (λ (d : ℕ). held (row_at d (w.see b) start)) (deep (w.see b) (sound_facts_lem w b h).formed),
            directory_holds ((w.see b).pages - 1) (w.see b) start,
          )
          (flip (all (vacancy (w.see b)) ((w.see b).entries start)))
      go (missing i) e = refl
      go (blocked i) e = refl

  remove_directory_placed : settle (lines w (remove_directory path) b) f x ≡ opened f (remove_directory_at (w.see b) f x) (placed w b path)
  unfolding is_format refusals earlier later settle is_no_path is_root located walked_answer tree_in
  remove_directory_placed = by_place w b path f (remove_directory path) refl x (remove_directory_at (w.see b) f x) (λ h. go h (path_of path))
    where
      go : T (sound w b) → (p : Path)
          → (if is_no_path p then f (refusal 4) else if is_root p then f (refusal 14) else directory_lines_of (walk (names p) (row_at (w.see b).pages (w.see b) 0)))
          ≡ (if is_no_path p then f (refusal 4) else opened f (remove_directory_at (w.see b) f x) (walked_answer (located (w.see b) p)))
      go h no_path = refl
      go h root = refl
      go h (below ns n) =
          ap directory_lines_of (walk_bytes (w.see b) (reads.readable b h).headed (sound_facts_lem w b h).formed (names (below ns n))
          ∙ ap (map_walked (row_at (w.see b).pages (w.see b))) (walk_entered (w.see b) (below ns n) tt))
          ∙ walk_directory (below ns n) (not_root ns n) h

-- ---- what a removal makes of the bytes

module _ (see : Bytes → View) (b : Bytes) {p : Path} {at begins : ℕ} (x : EntryOf (see b) p at begins) {name date : Bytes} {start k : ℕ} where
  pub file_removed : {locked : Bool} → (see b).entry_at at ≡ a_file locked name date start k
      → set (foldl (On.released (see b).geometry) b (chain (next (see b)) ((see b).numbers.pages_for k) start)) at 0 ≡ removed see p b
  unfolding removed pages_of
  file_removed is = sym (rw (entry_position x, is))

  pub directory_removed : (see b).entry_at at ≡ a_directory name date start k
      → set (foldl (On.released (see b).geometry) b ((see b).directory_pages start)) at 0 ≡ removed see p b
  unfolding removed pages_of
  directory_removed is = sym (rw (entry_position x, is))

-- ---- the answer and the image

module _ {w : Version} (reads : Reads w) (b path : Bytes) where
  at_file_does : {A : Type 0} (f : Refusal → A) (x : A) {a : Answer Spot} → a ≡ placed w b path
      → opened f (remove_file_at (w.see b) f x) a ≡ settle (lines w (remove_file path) b) f x
  at_file_does f x e = ap (opened f (remove_file_at (w.see b) f x)) e ∙ sym (remove_file_placed reads b path f x)

  at_directory_does : {A : Type 0} (f : Refusal → A) (x : A) {a : Answer Spot} → a ≡ placed w b path
      → opened f (remove_directory_at (w.see b) f x) a ≡ settle (lines w (remove_directory path) b) f x
  at_directory_does f x e = ap (opened f (remove_directory_at (w.see b) f x)) e ∙ sym (remove_directory_placed reads b path f x)

  pub remove_file_refused : {m : Refusal} → refused m ≡ placed w b path → Refuses w (remove_file path) b m
  unfolding answer after told effect
  remove_file_refused e = (at_file_does refused (granted (tt {0})) e, at_file_does (λ m. b) (removed w.see (path_of path) b) e)

  pub remove_file_root : granted the_root ≡ placed w b path → Refuses w (remove_file path) b (refusal 14)
  unfolding answer after told effect
  remove_file_root e = (at_file_does refused (granted (tt {0})) e, at_file_does (λ m. b) (removed w.see (path_of path) b) e)

  pub remove_directory_refused : {m : Refusal} → refused m ≡ placed w b path → Refuses w (remove_directory path) b m
  unfolding answer after told effect
  remove_directory_refused e = (at_directory_does refused (granted (tt {0})) e, at_directory_does (λ m. b) (removed w.see (path_of path) b) e)

  pub remove_directory_root : granted the_root ≡ placed w b path → Refuses w (remove_directory path) b (refusal 14)
  unfolding answer after told effect
  remove_directory_root e = (at_directory_does refused (granted (tt {0})) e, at_directory_does (λ m. b) (removed w.see (path_of path) b) e)

  module _ {at begins start k : ℕ} (e : granted (the_file at begins start k) ≡ placed w b path) where
    pub remove_directory_file : Refuses w (remove_directory path) b (refusal_at 6 begins)
    unfolding answer after told effect
    remove_directory_file = (at_directory_does refused (granted (tt {0})) e, at_directory_does (λ m. b) (removed w.see (path_of path) b) e)

    module _ {locked : Bool} {name date : Bytes} (is : (w.see b).entry_at at ≡ a_file locked name date start k) where
      mark_read : lock_in ((w.see b).entry_at at) ≡ locked
      unfolding lock_in
      mark_read = rw is

      -- the code says r of the mark
      pub remove_file_locked : {r : Bool} → r ≡ locked → r ≡ true → Refuses w (remove_file path) b (refusal 25)
      unfolding answer after told effect
      remove_file_locked asked marked =
          let l = mark_read ∙ sym asked ∙ marked in
          (rw l at (at_file_does refused (granted (tt {0})) e), rw l at (at_file_does (λ m. b) (removed w.see (path_of path) b) e))

      pub remove_file_done : {r : Bool} → r ≡ locked → r ≡ false → (n : ℕ) → n ≡ (w.see b).numbers.pages_for k
          → {b' : Bytes} → b' ≡ set (foldl (On.released (w.see b).geometry) b (chain (next (w.see b)) n start)) at 0
          → (granted (tt {0}) ≡ answer w (remove_file path) b) × (b' ≡ after w (remove_file path) b)
      unfolding answer after told effect
      remove_file_done asked unmarked n many left =
          let l = mark_read ∙ sym asked ∙ unmarked in (
            rw l at (at_file_does refused (granted (tt {0})) e),
            (rw many at left) ∙ file_removed w.see b (placed_arrived w b path (the_file at begins start k) e).at.0 is
                ∙ (rw l at (at_file_does (λ m. b) (removed w.see (path_of path) b) e)),
          )

  module _ {at begins start k : ℕ} (e : granted (the_directory at begins start k) ≡ placed w b path) where
    pub remove_file_directory : Refuses w (remove_file path) b (refusal 7)
    unfolding answer after told effect
    remove_file_directory = (at_file_does refused (granted (tt {0})) e, at_file_does (λ m. b) (removed w.see (path_of path) b) e)

    -- the code says r of whether all its entries are vacant
    pub remove_directory_held : {r : Bool} → r ≡ all (vacancy (w.see b)) ((w.see b).entries start) → r ≡ false
        → Refuses w (remove_directory path) b (refusal 13)
    unfolding answer after told effect
    remove_directory_held asked held-some =
        let h = sym asked ∙ held-some in
        (rw h at (at_directory_does refused (granted (tt {0})) e), rw h at (at_directory_does (λ m. b) (removed w.see (path_of path) b) e))

    pub remove_directory_done : {r : Bool} → r ≡ all (vacancy (w.see b)) ((w.see b).entries start) → r ≡ true
        → {b' : Bytes} → b' ≡ set (foldl (On.released (w.see b).geometry) b ((w.see b).directory_pages start)) at 0
        → (granted (tt {0}) ≡ answer w (remove_directory path) b) × (b' ≡ after w (remove_directory path) b)
    unfolding answer after told effect
    remove_directory_done asked empty left =
        let h = sym asked ∙ empty in
        let s = (placed_arrived w b path (the_directory at begins start k) e).at in (
          rw h at (at_directory_does refused (granted (tt {0})) e),
          left ∙ directory_removed w.see b s.0 s.1 ∙ (rw h at (at_directory_does (λ m. b) (removed w.see (path_of path) b) e)),
        )
