-- List: the row of a directory is read entry by entry, so entry i of the row is what the i-th entry of the directory says, on whichever of its pages it stands.
use mathlib.Core.Path.{◌≡◌, refl, sym, ap, ◌∙◌, subst}
use Prim.Native.Nat.{ℕ, zero, suc, ◌-◌}
use native.Mathlib.Omega.{arith}
use mathlib.Core.Bool.{Bool, true, false, not}
use mathlib.Core.List.{List, [], ◌∷◌, ◌++◌}
use lib.ListN.{length}
use lib.Dec.{T, leb, leb-zero, leb-suc-zero, leb-suc-suc}
use Rattle.volume.specs.Bytes.{Bytes}
use Rattle.std.specs.Prelude.{if◌then◌else◌}
use Rattle.volume.specs.Chain.{chain}
use Rattle.volume.proofs.Occ.{Mem, mem_head, mem_tail}
use Rattle.model.specs.Entry.{Entry, vacant, a_file, a_directory}
use Rattle.model.specs.View.{View, next}
use Rattle.model.specs.Sound.{pages_of}
use Rattle.model.specs.Tree.{Row, end, width}
use Rattle.model.specs.Path.{Name, path_of, is_no_path, names}
use Rattle.model.specs.Image.{content_of, entry_row, row_of, row_at, tree_in}
use Rattle.model.specs.Walk.{Walked, arrived, missing, blocked, walk, in_walked, walk_on, arrived_or}
use Rattle.model.specs.Call.{list, Listed, Refusal, refusal, Answer, refused, granted}
use Rattle.model.specs.Version.{Version}
use Rattle.model.specs.RefusalOf.{walk_lines, is_missing, is_blocked, stopped_at, wanted, free_in, space_line, earlier, later, refusals, settle}
use Rattle.model.specs.MeaningOf.{listed, told, is_format, sound, tree_of, answer}
use Rattle.view_laws.proofs.Facts.{Facts}
use Rattle.view_laws.proofs.Walks.{map_walked, walk_bytes}
use Rattle.version_laws.proofs.Steps.{sound_facts_lem}
use Rattle.arrivals.specs.Places.{Spot, the_root, the_file, the_directory, numbers_on, located, walked_answer, placed}
use Rattle.arrivals.specs.Listed.{entry_told, listed_of, entry_listed, list_at}
use Rattle.arrivals.proofs.Arrivals.{deep}
use Rattle.arrivals.proofs.Entries.{Readable, size_told, entered, walk_entered}
use Rattle.arrivals.proofs.Settled.{Reads, opened, by_place}

-- ---- a row by its positions

-- the files at these positions are as long as their sizes say
abbrev Told : View → List ℕ → Type 0
Told v ats = (at : ℕ) → Mem at ats → (locked : Bool) (name date : Bytes) (start k : ℕ) → v.entry_at at ≡ a_file locked name date start k
    → length (content_of v k (chain (next v) (v.numbers.pages_for k) start)) ≡ k

abbrev row_answer : (page_size : ℕ) → Row → ℕ → Answer Listed
row_answer z r i = if leb (width r) i then refused (refusal 12) else granted (listed z r i)

module _ (z : ℕ) (v : View) (g : ℕ → Row) where
  entry_first : (at : ℕ) (rest : Row) → Told v (at ∷ []) → row_answer z (entry_row v g (v.entry_at at) rest) 0 ≡ granted (entry_told z (v.entry_at at))
  unfolding entry_row width listed entry_told pages_of
  entry_first at rest h = go (v.entry_at at) (λ locked name date start k. h at (mem_head at []) locked name date start k)
    where
      go : (x : Entry)
          → ((locked : Bool) (name date : Bytes) (start k : ℕ) → x ≡ a_file locked name date start k → length (content_of v k (chain (next v) (v.numbers.pages_for k) start)) ≡ k)
          → row_answer z (entry_row v g x rest) 0 ≡ granted (entry_told z x)
      go vacant h = rw (leb-suc-zero (width rest))
      go (a_file locked name date start k) h = rw (leb-suc-zero (width rest), h locked name date start k refl)
      go (a_directory name date start k) h = rw (leb-suc-zero (width rest))

  entry_other : (x : Entry) (rest : Row) (i : ℕ) → row_answer z (entry_row v g x rest) (suc i) ≡ row_answer z rest i
  unfolding entry_row width listed
  entry_other vacant rest i = rw (leb-suc-suc (width rest) i)
  entry_other (a_file locked name date start k) rest i = rw (leb-suc-suc (width rest) i)
  entry_other (a_directory name date start k) rest i = rw (leb-suc-suc (width rest) i)

  row_listed : (ats : List ℕ) (i : ℕ) → Told v ats → row_answer z (row_of v g ats) i ≡ listed_of z v ats i
  unfolding row_of listed_of width
  row_listed [] i h = rw (leb-zero i)
  row_listed (at ∷ ats) zero h = entry_first at (row_of v g ats) (λ x m. h x (omega (arith, m)))
  row_listed (at ∷ ats) (suc i) h = entry_other (v.entry_at at) (row_of v g ats) i ∙ row_listed ats i (λ x m. h x (mem_tail x at ats m))

directory_listed : (z : ℕ) (v : View) → Readable v → Facts v → (ns : List Name) (t : ℕ) → walk_on v ns 0 ≡ arrived t → (i : ℕ)
    → row_answer z (row_at v.pages v t) i ≡ listed_of z v (v.entries t) i
unfolding row_at
directory_listed z v r f ns t come i =
    ap (λ (k : ℕ). row_answer z (row_at k v t) i) (deep v f.formed)
    ∙ row_listed z v (row_at (v.pages - 1) v) (v.entries t) i (λ at m locked name date start k is. size_told v f ns t come at m r is)

-- ---- the call

module _ {w : Version} (reads : Reads w) (b path : Bytes) (i : ℕ) where
  abbrev lines_of : Walked Row → Answer Listed
  lines_of l = settle (walk_lines l ++ ((leb (width (arrived_or end l)) i, refusal 12) ∷ space_line w (list path i) (tree_of w b) ∷ [])) refused
      (granted (listed (numbers_on w b).page_size (arrived_or end l) i))

  walk_listed : T (sound w b) → T (not (is_no_path (path_of path)))
      → lines_of (map_walked (row_at (w.see b).pages (w.see b)) (in_walked (located (w.see b) (path_of path)) entered))
      ≡ opened refused (list_at w b i) (walked_answer (located (w.see b) (path_of path)))
  unfolding settle is_missing is_blocked stopped_at arrived_or map_walked in_walked entered walked_answer wanted
  walk_listed h path-is = go (located (w.see b) (path_of path)) refl
    where
      row : (t : ℕ) → walk_on (w.see b) (names (path_of path)) 0 ≡ arrived t → lines_of (arrived (row_at (w.see b).pages (w.see b) t)) ≡ entry_listed w b t i
      row t come = rw (leb-suc-zero (free_in w (tree_of w b)))
          (directory_listed (numbers_on w b).page_size (w.see b) (reads.readable b h) (sound_facts_lem w b h) (names (path_of path)) t come i)

      comes : (l : Walked Spot) → located (w.see b) (path_of path) ≡ l → walk_on (w.see b) (names (path_of path)) 0 ≡ in_walked l entered
      comes l e = walk_entered (w.see b) (path_of path) path-is ∙ ap (λ (x : Walked Spot). in_walked x entered) e

      go : (l : Walked Spot) → located (w.see b) (path_of path) ≡ l
          → lines_of (map_walked (row_at (w.see b).pages (w.see b)) (in_walked l entered)) ≡ opened refused (list_at w b i) (walked_answer l)
      go (arrived the_root) e = row 0 (comes (arrived the_root) e)
      go (arrived (the_file at begins start size)) e = refl
      go (arrived (the_directory at begins start size)) e = row start (comes (arrived (the_directory at begins start size)) e)
      go (missing j) e = refl
      go (blocked j) e = refl

  list_placed : answer w (list path i) b ≡ opened refused (list_at w b i) (placed w b path)
  unfolding answer is_format refusals earlier later told settle tree_in
  list_placed = by_place w b path refused (list path i) refl (granted (told w (list path i) (tree_of w b))) (list_at w b i) (λ h. go h (is_no_path (path_of path)) refl)
    where
      go : T (sound w b) → (c : Bool) → is_no_path (path_of path) ≡ c
          → (if c then refused (refusal 4) else lines_of (walk (names (path_of path)) (row_at (w.see b).pages (w.see b) 0)))
          ≡ (if c then refused (refusal 4) else opened refused (list_at w b i) (walked_answer (located (w.see b) (path_of path))))
      go h true e = refl
      go h false e =
          let is_path_lem = subst (λ (c : Bool). T (not c)) (sym e) tt in
          ap lines_of (walk_bytes (w.see b) (reads.readable b h).headed (sound_facts_lem w b h).formed (names (path_of path))
          ∙ ap (map_walked (row_at (w.see b).pages (w.see b))) (walk_entered (w.see b) (path_of path) is_path_lem)) ∙ walk_listed h is_path_lem

  pub list_refused : {m : Refusal} → refused m ≡ placed w b path → refused m ≡ answer w (list path i) b
  list_refused e = ap (opened refused (list_at w b i)) e ∙ sym list_placed

  -- what is told of a place is told by the call: 6 of a file, and entry i of a directory
  pub list_at_lem : (s : Spot) → granted s ≡ placed w b path → list_at w b i s ≡ answer w (list path i) b
  list_at_lem s e = ap (opened refused (list_at w b i)) e ∙ sym list_placed
