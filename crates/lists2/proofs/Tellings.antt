-- The lines of the call are those of where its path leads, and at a directory its own line is left; what list tells of an entry there is read at the entry's position.
use mathlib.Core.Path.{◌≡◌, refl, sym, ap, ◌∙◌, subst}
use Prim.Native.Nat.{ℕ, zero, suc, ◌+◌, ◌-◌, ◌/◌, ◌≤◌, ◌<◌, min}
use native.Mathlib.Omega.{arith}
use mathlib.Core.Bool.{Bool, true, false, not}
use mathlib.Core.List.{List, [], ◌∷◌, ◌++◌, flat_map}
use lib.ListN.{length, take, drop}
use lib.Dec.{T, ltb}
use borrow.Author.Tests.{ltb-false}
use Rattle.volume.specs.Bytes.{Bytes, put}
use Rattle.std.specs.Prelude.{if◌then◌else◌}
use Rattle.volume.specs.Lists.{count_from}
use Rattle.volume.proofs.Flat.{flat_map_same}
use Rattle.model.specs.Entry.{Entry, vacant, a_file, a_directory}
use Rattle.model.specs.View.{View}
use Rattle.model.specs.Tree.{Row, end, width}
use Rattle.model.specs.Path.{path_of, is_no_path, names}
use Rattle.model.specs.Image.{entry_row, row_of, row_at, tree_in}
use Rattle.model.specs.Walk.{Walked, arrived, missing, blocked, walk, in_walked, arrived_or}
use Rattle.model.specs.Call.{list, Refusal, refusal, refusal_at, Answer, refused, granted}
use Rattle.model.specs.RefusalOf.{path_line, walk_lines, is_missing, is_blocked, stopped_at, walked_directory, directory_row, settle}
use Rattle.model.specs.MeaningOf.{sound, tree_of, image_lines, answer}
use Rattle.view_laws.proofs.Facts.{Facts}
use Rattle.view_laws.proofs.Walks.{map_walked, walk_bytes}
use Rattle.version_laws.proofs.Lines.{settle_append}
use Rattle.version_laws.proofs.Steps.{sound_facts_lem}
use Rattle.model2.specs.Version2.{view2}
use Rattle.model2.specs.Calls.{v2}
use Rattle.arrivals.specs.Places.{Spot, the_root, the_file, the_directory, numbers_on, located, walked_answer, first_lines, placed}
use Rattle.arrivals.specs.Listed.{entry_told, listed_of}
use Rattle.arrivals.proofs.Arrivals.{deep}
use Rattle.arrivals.proofs.Entries.{entered, walk_entered}
use Rattle.arrivals.proofs.Settled.{opened, settle_opened, if_sound}
use Rattle.arrivals.proofs.Lists.{list_at_lem}
use Rattle.shape.specs.declared.Shape.{Shape}
use Rattle.known2.specs.Known.{Known}
use Rattle.places2.proofs.Held.{reads2, page_size_lem}
use Rattle.entry_rows2.specs.Row.{entry_bytes, listed_bytes}
use Rattle.lists2.specs.Entries.{entries_lines, entries_answer, entries_after}
use Rattle.lists2.specs.Rows.{bytes_at, all, entries_in, rows_in}

-- ---- the lines

module _ (b path : Bytes) (first : ℕ) {A : Type 0} (f : Refusal → A) (x : ℕ → A) where
  -- the row of the directory p, which the tree has
  abbrev wide : ℕ → ℕ
  wide p = width (row_at (view2 b).pages (view2 b) p)

  abbrev row_lines : Walked Row → A
  row_lines l = settle (walk_lines l ++ ((ltb (width (arrived_or end l)) first, refusal 12) ∷ [])) f (x (width (arrived_or end l)))

  abbrev there : ℕ → A
  there p = settle ((ltb (wide p) first, refusal 12) ∷ []) f (x (wide p))

  abbrev pub at_spot : Spot → A
  at_spot the_root = there 0
  at_spot (the_file at begins start size) = f (refusal_at 6 begins)
  at_spot (the_directory at begins start size) = there start

  walk_opened : (l : Walked Spot) → row_lines (map_walked (row_at (view2 b).pages (view2 b)) (in_walked l entered)) ≡ opened f at_spot (walked_answer l)
  unfolding settle is_missing is_blocked stopped_at arrived_or map_walked in_walked entered walked_answer
  walk_opened (arrived the_root) = refl
  walk_opened (arrived (the_file at begins start size)) = refl
  walk_opened (arrived (the_directory at begins start size)) = refl
  walk_opened (missing j) = refl
  walk_opened (blocked j) = refl

  pub entries_placed : settle (entries_lines b path first) f (x (width (directory_row path (tree_of v2 b)))) ≡ opened f at_spot (placed v2 b path)
  unfolding entries_lines placed settle tree_in
  entries_placed =
      let z : A = opened f at_spot (walked_answer (located (view2 b) (path_of path))) in
      settle_append f (image_lines v2 b) (path_line path ∷ walk_lines (walked_directory path (tree_of v2 b)) ++ ((ltb (width (directory_row path (tree_of v2 b))) first, refusal 12) ∷ []))
      (x (width (directory_row path (tree_of v2 b))))
      ∙ if_sound v2 b f (λ h. go h (is_no_path (path_of path)) refl)
      ∙ sym (settle_append f (image_lines v2 b) (path_line path ∷ []) z)
      ∙ sym (settle_opened f at_spot (first_lines v2 b path) (walked_answer (located (view2 b) (path_of path))))
    where
      go : T (sound v2 b) → (c : Bool) → is_no_path (path_of path) ≡ c
          → (if c then f (refusal 4) else row_lines (walk (names (path_of path)) (row_at (view2 b).pages (view2 b) 0)))
          ≡ (if c then f (refusal 4) else opened f at_spot (walked_answer (located (view2 b) (path_of path))))
      go h true e = refl
      go h false e =
          let is_path_lem = subst (λ (c : Bool). T (not c)) (sym e) tt in
          ap row_lines (walk_bytes (view2 b) (reads2.readable b h).headed (sound_facts_lem v2 b h).formed (names (path_of path))
          ∙ ap (map_walked (row_at (view2 b).pages (view2 b))) (walk_entered (view2 b) (path_of path) is_path_lem)) ∙ walk_opened (located (view2 b) (path_of path))

-- ---- the row of a directory

row_width : (v : View) (g : ℕ → Row) (ats : List ℕ) → width (row_of v g ats) ≡ length ats
unfolding row_of entry_row width
row_width v g [] = refl
row_width v g (x ∷ xs) = go (v.entry_at x) (row_width v g xs)
  where
    go : (e : Entry) → width (row_of v g xs) ≡ length xs → width (entry_row v g e (row_of v g xs)) ≡ suc (length xs)
    go vacant h = ap suc h
    go (a_file locked name date start size) h = ap suc h
    go (a_directory name date start size) h = ap suc h

pub wide_is : (v : View) → Facts v → (p : ℕ) → width (row_at v.pages v p) ≡ length (v.entries p)
unfolding row_at
wide_is v f p = ap (λ (k : ℕ). width (row_at k v p)) (deep v f.formed) ∙ row_width v (row_at (v.pages - 1) v) (v.entries p)

-- what list tells of so many entries from i on
module _ (z : ℕ) (v : View) where
  abbrev bytes_of : List ℕ → Bytes
  bytes_of ats = flat_map (λ at. entry_bytes (entry_told z (v.entry_at at))) ats

  one_listed : (ats : List ℕ) (i k : ℕ) → i < length ats → listed_bytes (listed_of z v ats i) ++ bytes_of (take k (drop (suc i) ats)) ≡ bytes_of (take (suc k) (drop i ats))
  unfolding listed_of listed_bytes flat_map
  one_listed [] i k h = absurd (omega arith)
  one_listed (x ∷ xs) zero k h = refl
  one_listed (x ∷ xs) (suc i) k h = one_listed xs i k (omega arith)

  some_listed : (ats : List ℕ) (k i : ℕ) → i + k ≤ length ats → flat_map (λ j. listed_bytes (listed_of z v ats j)) (count_from i k) ≡ bytes_of (take k (drop i ats))
  unfolding count_from flat_map
  some_listed ats zero i h = refl
  some_listed ats (suc k) i h =
      ap (λ (r : Bytes). listed_bytes (listed_of z v ats i) ++ r) (some_listed ats k (suc i) (omega arith)) ∙ one_listed ats i k (omega arith)

-- ---- what is told at a directory

module _ (b path : Bytes) (first : ℕ) where
  abbrev numbers : (room : ℕ) → ℕ → Answer (ℕ × ℕ)
  numbers room m = granted (min (room / 32) (m - first), m)

  abbrev filling : (rows : Bytes) → ℕ → Bytes
  filling rows m = put 0 (flat_map (λ i. listed_bytes (answer v2 (list path i) b)) (count_from first (min (length rows / 32) (m - first)))) rows

module _ {b : Bytes} {s : Shape} {n : ℕ} (k : Known b s n) (path : Bytes) (first : ℕ) where
  -- list tells the entries of p there
  abbrev Lists : ℕ → Type 0
  Lists p = (i : ℕ) → listed_of (numbers_on v2 b).page_size (view2 b) ((view2 b).entries p) i ≡ answer v2 (list path i) b

  answer_there : (p room : ℕ) → there b path first refused (numbers b path first room) p ≡ entries_in b p first room
  unfolding entries_in
  answer_there p room = ap (λ (m : ℕ). settle ((ltb m first, refusal 12) ∷ []) refused (numbers b path first room m)) (wide_is (view2 b) k.facts p)

  rows_there : (p : ℕ) (rows : Bytes) → Lists p → there b path first (λ r. rows) (filling b path first rows) p ≡ rows_in b p first s.size rows
  unfolding rows_in bytes_at settle
  rows_there p rows ls =
      ap (λ (m : ℕ). settle ((ltb m first, refusal 12) ∷ []) (λ r. rows) (filling b path first rows m)) (wide_is (view2 b) k.facts p)
      ∙ go (ltb (all b p first) first) refl
    where
      m : ℕ
      m = min (length rows / 32) (all b p first - first)

      go : (c : Bool) → ltb (all b p first) first ≡ c
          → (if c then rows else filling b path first rows (all b p first)) ≡ (if c then rows else put 0 (bytes_at s.size b (take m (drop first ((view2 b).entries p)))) rows)
      go true e = refl
      go false e = ap (λ (v : Bytes). put 0 v rows) (
          flat_map_same (λ i. listed_bytes (answer v2 (list path i) b)) (λ i. listed_bytes (listed_of (numbers_on v2 b).page_size (view2 b) ((view2 b).entries p) i)) (count_from first m)
          (λ i o. ap listed_bytes (sym (ls i)))
          ∙ some_listed (numbers_on v2 b).page_size (view2 b) ((view2 b).entries p) m first (let l = ltb-false (all b p first) first e in omega arith)
          ∙ ap (λ (z : ℕ). bytes_at z b (take m (drop first ((view2 b).entries p)))) (sym (page_size_lem k)))

  module _ (come : granted the_root ≡ placed v2 b path) where
    pub root_answer : (room : ℕ) → entries_in b 0 first room ≡ entries_answer b path first room
    unfolding entries_answer
    root_answer room = sym (answer_there 0 room) ∙ ap (opened refused (at_spot b path first refused (numbers b path first room))) come ∙ sym (entries_placed b path first refused (numbers b path first room))

    pub root_rows : (rows : Bytes) → rows_in b 0 first s.size rows ≡ entries_after b path first rows
    unfolding entries_after
    root_rows rows =
        sym (rows_there 0 rows (λ i. list_at_lem reads2 b path i the_root come))
        ∙ ap (opened (λ r. rows) (at_spot b path first (λ r. rows) (filling b path first rows))) come ∙ sym (entries_placed b path first (λ r. rows) (filling b path first rows))

  module _ {at begins p size : ℕ} (come : granted (the_directory at begins p size) ≡ placed v2 b path) where
    pub directory_answer : (room : ℕ) → entries_in b p first room ≡ entries_answer b path first room
    unfolding entries_answer
    directory_answer room = sym (answer_there p room) ∙ ap (opened refused (at_spot b path first refused (numbers b path first room))) come ∙ sym (entries_placed b path first refused (numbers b path first room))

    pub directory_rows : (rows : Bytes) → rows_in b p first s.size rows ≡ entries_after b path first rows
    unfolding entries_after
    directory_rows rows =
        sym (rows_there p rows (λ i. list_at_lem reads2 b path i (the_directory at begins p size) come))
        ∙ ap (opened (λ r. rows) (at_spot b path first (λ r. rows) (filling b path first rows))) come ∙ sym (entries_placed b path first (λ r. rows) (filling b path first rows))

-- ---- what is refused before

module _ (b path : Bytes) (first : ℕ) where
  abbrev Refuses : (rows : Bytes) → Refusal → Type 0
  Refuses rows m = (refused m ≡ entries_answer b path first (length rows)) × (rows ≡ entries_after b path first rows)

  settled_by : (f : Answer Spot) → f ≡ placed v2 b path → (rows : Bytes)
      → (opened refused (at_spot b path first refused (numbers b path first (length rows))) f ≡ entries_answer b path first (length rows))
      × (opened (λ r. rows) (at_spot b path first (λ r. rows) (filling b path first rows)) f ≡ entries_after b path first rows)
  unfolding entries_answer entries_after
  settled_by f e rows = (
    ap (opened refused (at_spot b path first refused (numbers b path first (length rows)))) e ∙ sym (entries_placed b path first refused (numbers b path first (length rows))),
    ap (opened (λ r. rows) (at_spot b path first (λ r. rows) (filling b path first rows))) e ∙ sym (entries_placed b path first (λ r. rows) (filling b path first rows)),
  )

  pub place_refused : {m : Refusal} → refused m ≡ placed v2 b path → (rows : Bytes) → Refuses rows m
  place_refused {m} e rows = settled_by (refused m) e rows

  pub file_refused : {at begins start size : ℕ} → granted (the_file at begins start size) ≡ placed v2 b path → (rows : Bytes) → Refuses rows (refusal_at 6 begins)
  file_refused {at} {begins} {start} {size} e rows = settled_by (granted (the_file at begins start size)) e rows
