-- What a directory means, owns, and that it is good, does not hang on where its pages lie: if every page moves, and the entries and links
-- that name it follow, each is put together from its entries as before.
use mathlib.Core.Path.{◌≡◌, refl, sym, ap, ap₂, ◌∙◌, subst}
use mathlib.Core.Logic.{inl, inr}
use Prim.Native.Nat.{ℕ, zero, suc, ◌+◌, ◌*◌, ◌/◌, ◌%◌}
use native.Mathlib.Omega.{arith}
use mathlib.Core.Bool.{Bool, true, not, ◌&&◌}
use mathlib.Core.List.{List, [], ◌∷◌, ◌++◌, map, flat_map}
use lib.ListN.{take}
use lib.Dec.{T, eqb, eqb→eq}
use Rattle.volume.specs.Bytes.{Bytes}
use Rattle.volume.specs.Lists.{all, conditions, up_to}
use Rattle.volume.specs.Chain.{chain, beyond}
use Rattle.volume.proofs.Occ.{Mem, mem_head, mem_tail, mem_cons}
use Rattle.volume.proofs.Tests.{and_both, both_and, no_conditions, conditions_cons, cons_conditions, all_occ, occ_all, eq-eqb}
use Rattle.volume.proofs.Flat.{occ_flat_map_le}
use Rattle.model.specs.Layout.{pages_for, link}
use Rattle.model.specs.Name.{legal_name}
use Rattle.model.specs.Entry.{entry_count, entries_start, entries, Entry, vacant, a_file, a_directory, entry_at}
use Rattle.model.specs.Version1.{view}
use Rattle.model.specs.Sound.{pages_of, good_entry, is_named, same_name, names_apart, in_directory, good_directory, reached_by, reached, owned}
use Rattle.model.specs.Tree.{Row, file, dir}
use Rattle.model.specs.Image.{content_on, content_of, entry_row, row_of, row_at}
use Rattle.laws.proofs.Owns.{own, owned_entries}
use Rattle.laws.proofs.Frame.{good_below}

-- ---- lists over the same indices

pub mem_map : (f : ℕ → ℕ) (is : List ℕ) (x : ℕ) → Mem x (map f is) → (i : ℕ) × Mem i is × (x ≡ f i)
mem_map f [] x m = absurd (omega arith)
mem_map f (i ∷ is) x m = elim (mem_cons x (f i) (map f is) m) [
  | inl e ↦ (i, mem_head i is, e)
  | inr k ↦ let r = mem_map f is x k in (r.0, mem_tail r.0 i is r.1, r.2)
]

pub map_mem : (f : ℕ → ℕ) (is : List ℕ) (i : ℕ) → Mem i is → Mem (f i) (map f is)
map_mem f [] i m = absurd (omega arith)
map_mem f (j ∷ js) i m = elim (mem_cons i j js m) [
  | inl e ↦ subst (λ (x : ℕ). Mem (f x) (map f (j ∷ js))) (sym e) (mem_head (f j) (map f js))
  | inr k ↦ mem_tail (f i) (f j) (map f js) (map_mem f js i k)
]

all_paired : (g g' : ℕ → Bool) (f f' : ℕ → ℕ) (is : List ℕ) → ((i : ℕ) → Mem i is → g' (f' i) ≡ g (f i)) → all g' (map f' is) ≡ all g (map f is)
unfolding all
all_paired g g' f f' [] h = refl
all_paired g g' f f' (i ∷ is) h = ap₂ (λ (c d : Bool). c && d) (h i (mem_head i is)) (all_paired g g' f f' is (λ j m. h j (mem_tail j i is m)))

map-append : (f : ℕ → ℕ) (xs ys : List ℕ) → map f (xs ++ ys) ≡ map f xs ++ map f ys
map-append f [] ys = refl
map-append f (x ∷ xs) ys = ap (λ (l : List ℕ). f x ∷ l) (map-append f xs ys)

flat_map_paired : (to : ℕ → ℕ) (g g' : ℕ → List ℕ) (f f' : ℕ → ℕ) (is : List ℕ) → ((i : ℕ) → Mem i is → g' (f' i) ≡ map to (g (f i)))
    → flat_map g' (map f' is) ≡ map to (flat_map g (map f is))
unfolding flat_map
flat_map_paired to g g' f f' [] h = refl
flat_map_paired to g g' f f' (i ∷ is) h =
    ap₂ {C = List ℕ} (λ (u v : List ℕ). u ++ v) (h i (mem_head i is)) (flat_map_paired to g g' f f' is (λ j m. h j (mem_tail j i is m)))
    ∙ sym (map-append to (g (f i)) (flat_map g (map f is)))

flat_map_map : (g g' : ℕ → List ℕ) (to : ℕ → ℕ) (ps : List ℕ) → ((q : ℕ) → Mem q ps → g' (to q) ≡ g q) → flat_map g' (map to ps) ≡ flat_map g ps
unfolding flat_map
flat_map_map g g' to [] h = refl
flat_map_map g g' to (p ∷ ps) h =
    ap₂ {C = List ℕ} (λ (u v : List ℕ). u ++ v) (h p (mem_head p ps)) (flat_map_map g g' to ps (λ q m. h q (mem_tail q p ps m)))

-- the links of its pages follow, and so does the chain
pub chain_renamed : (next next' to : ℕ → ℕ) (k p : ℕ) → ((q : ℕ) → Mem q (chain next k p) → next' (to q) ≡ to (next q))
    → (chain next' k (to p) ≡ map to (chain next k p)) × (beyond next' k (to p) ≡ to (beyond next k p))
unfolding chain beyond
chain_renamed next next' to zero p h = (refl, refl)
chain_renamed next next' to (suc k) p h =
    let e : next' (to p) ≡ to (next p) = h p (mem_head p (chain next k (next p))) in
    let r = chain_renamed next next' to k (next p) (λ q m. h q (mem_tail q p (chain next k (next p)) m)) in
    (ap {B = List ℕ} (λ ps. to p ∷ ps) (ap (chain next' k) e ∙ r.0), ap (beyond next' k) e ∙ r.1)

-- ---- entries

-- an entry whose start page has moved
abbrev pub renamed : (ℕ → ℕ) → Entry → Entry
renamed to vacant = vacant
renamed to (a_file locked name date start size) = a_file locked name date (to start) size
renamed to (a_directory name date start size) = a_directory name date (to start) size

named_renamed : (to : ℕ → ℕ) (n : Bytes) (e : Entry) → is_named n (renamed to e) ≡ is_named n e
unfolding is_named
named_renamed to n vacant = refl
named_renamed to n (a_file locked name date start size) = refl
named_renamed to n (a_directory name date start size) = refl

same_renamed : (to : ℕ → ℕ) (e f : Entry) → same_name (renamed to e) (renamed to f) ≡ same_name e f
unfolding same_name
same_renamed to vacant f = refl
same_renamed to (a_file locked name date start size) f = named_renamed to name f
same_renamed to (a_directory name date start size) f = named_renamed to name f

abbrev pub position : (page i : ℕ) → ℕ
position p i = entries_start p + 32 * i

-- the new position of a byte: it goes with its page
abbrev pub carried_to : (ℕ → ℕ) → ℕ → ℕ
carried_to to at = 256 * to (at / 256) + at % 256

module _ (b b' : Bytes) (to : ℕ → ℕ) where
  -- the directory on page p stands on page to p, its entries in the same order
  pub record DirectoryMoved (p : ℕ) : Type 0 where
    pub count : entry_count (to p) ≡ entry_count p
    pub each : (i : ℕ) → Mem i (up_to (entry_count p)) → entry_at b' (position (to p) i) ≡ renamed to (entry_at b (position p i))
    pub stands : (i : ℕ) → Mem i (up_to (entry_count p)) → position (to p) i ≡ carried_to to (position p i)

  -- page q of a file
  pub record FilePageMoved (q : ℕ) : Type 0 where
    pub next : link b' (to q) ≡ to (link b q)
    pub content : content_on (view b') (to q) ≡ content_on (view b) q

  -- the pages of an entry have moved
  abbrev pub EntryMoved : Entry → Type 0
  EntryMoved vacant = Unit {0}
  EntryMoved (a_file locked name date start size) = (q : ℕ) → Mem q (pages_of (view b) (a_file locked name date start size)) → FilePageMoved q
  EntryMoved (a_directory name date start size) = DirectoryMoved start

  -- the directory on page p means in b' what it means in b
  pub record Moves (d p : ℕ) : Type 0 where
    pub row : row_at d (view b') (to p) ≡ row_at d (view b) p
    pub owns : owned d (view b') (to p) ≡ map to (owned d (view b) p)
    pub good : T (good_directory d (view b') (to p))
    pub reaches : reached d (view b') (to p) ≡ map (carried_to to) (reached d (view b) p)

  abbrev pub BelowMoves : (d : ℕ) → Entry → Type 0
  BelowMoves d e = in_directory (Unit {0}) (Moves d) e

  entry_row_lem : (d : ℕ) (e : Entry) → EntryMoved e → BelowMoves d e → (rest : Row)
      → entry_row (view b') (row_at d (view b')) (renamed to e) rest ≡ entry_row (view b) (row_at d (view b)) e rest
  unfolding entry_row content_of pages_of
  entry_row_lem d vacant h s rest = refl
  entry_row_lem d (a_file locked name date start size) h s rest =
      let r = chain_renamed (link b) (link b') to (pages_for size) start (λ q m. (h q m).next) in
      ap {B = Row} (λ (l : List ℕ). file locked name date (take size (flat_map (content_on (view b')) l)) rest) r.0
      ∙ ap {B = Row} (λ (v : Bytes). file locked name date (take size v) rest) (flat_map_map (content_on (view b)) (content_on (view b')) to (chain (link b) (pages_for size) start) (λ q m. (h q m).content))
  entry_row_lem d (a_directory name date start size) h s rest = ap (λ (r : Row). dir name date r rest) s.row

  -- the pages of an entry are where its pages came to
  pub entry_pages : (e : Entry) → EntryMoved e → pages_of (view b') (renamed to e) ≡ map to (pages_of (view b) e)
  unfolding pages_of
  entry_pages vacant h = refl
  entry_pages (a_file locked name date start size) h = (chain_renamed (link b) (link b') to (pages_for size) start (λ q m. (h q m).next)).0
  entry_pages (a_directory name date start size) h = refl

  entry_own : (d : ℕ) (e : Entry) → EntryMoved e → BelowMoves d e → own d b' (renamed to e) ≡ map to (own d b e)
  unfolding own pages_of
  entry_own d vacant h s = refl
  entry_own d (a_file locked name date start size) h s = (chain_renamed (link b) (link b') to (pages_for size) start (λ q m. (h q m).next)).0
  entry_own d (a_directory name date start size) h s = ap (λ (l : List ℕ). to start ∷ l) s.owns

  entry_good : to 0 ≡ 0 → (e : Entry) → EntryMoved e → T (good_entry (view b) e) → T (good_entry (view b') (renamed to e))
  unfolding good_entry pages_of
  entry_good z vacant h g = tt
  entry_good z (a_file locked name date start size) h g =
      let r = chain_renamed (link b) (link b') to (pages_for size) start (λ q m. (h q m).next) in
      let a = and_both (legal_name name) (eqb (beyond (link b) (pages_for size) start) 0) g in
      let e : beyond (link b') (pages_for size) (to start) ≡ 0 = r.1 ∙ ap to (eqb→eq (beyond (link b) (pages_for size) start) 0 a.1) ∙ z in
      both_and (legal_name name) (eqb (beyond (link b') (pages_for size) (to start)) 0) a.0 (eq-eqb e)
  entry_good z (a_directory name date start size) h g = g

  entry_below : (d : ℕ) (e : Entry) → BelowMoves d e → T (in_directory true (good_directory d (view b')) (renamed to e))
  entry_below d vacant s = tt
  entry_below d (a_file locked name date start size) s = tt
  entry_below d (a_directory name date start size) s = s.good

  entry_reached : (d at : ℕ) (e : Entry) → BelowMoves d e → reached_by (carried_to to at) (reached d (view b')) (renamed to e) ≡ map (carried_to to) (reached_by at (reached d (view b)) e)
  unfolding reached_by
  entry_reached d at vacant s = refl
  entry_reached d at (a_file locked name date start size) s = refl
  entry_reached d at (a_directory name date start size) s = ap (λ (l : List ℕ). carried_to to at ∷ l) s.reaches

  -- ---- one level

  rows_paired : (g g' : ℕ → Row) (f f' : ℕ → ℕ) (is : List ℕ)
      → ((i : ℕ) → Mem i is → (rest : Row) → entry_row (view b') g' (entry_at b' (f' i)) rest ≡ entry_row (view b) g (entry_at b (f i)) rest)
      → row_of (view b') g' (map f' is) ≡ row_of (view b) g (map f is)
  unfolding row_of
  rows_paired g g' f f' [] h = refl
  rows_paired g g' f f' (i ∷ is) h =
      h i (mem_head i is) (row_of (view b') g' (map f' is)) ∙ ap (entry_row (view b) g (entry_at b (f i))) (rows_paired g g' f f' is (λ j m. h j (mem_tail j i is m)))

  apart_paired : (f f' : ℕ → ℕ) (is : List ℕ) → ((i : ℕ) → Mem i is → entry_at b' (f' i) ≡ renamed to (entry_at b (f i)))
      → names_apart (view b') (map f' is) ≡ names_apart (view b) (map f is)
  unfolding names_apart
  apart_paired f f' [] h = refl
  apart_paired f f' (i ∷ is) h =
      ap₂ (λ (c d : Bool). c && d)
      (all_paired (λ x. not (same_name (entry_at b (f i)) (entry_at b x))) (λ x. not (same_name (entry_at b' (f' i)) (entry_at b' x))) f f' is (λ j m.
      ap₂ (λ (y z : Entry). not (same_name y z)) (h i (mem_head i is)) (h j (mem_tail j i is m)) ∙ ap not (same_renamed to (entry_at b (f i)) (entry_at b (f j)))))
      (apart_paired f f' is (λ j m. h j (mem_tail j i is m)))

  module _ (p : ℕ) (m : DirectoryMoved p) where
    moved_entries : entries (to p) ≡ map (position (to p)) (up_to (entry_count p))
    unfolding entries
    moved_entries = ap (λ (n : ℕ). map (position (to p)) (up_to n)) m.count

  in_entries : (p i : ℕ) → Mem i (up_to (entry_count p)) → Mem (position p i) (entries p)
  unfolding entries
  in_entries p i k = map_mem (position p) (up_to (entry_count p)) i k

  level : (d p : ℕ) → to 0 ≡ 0 → DirectoryMoved p → T (good_directory (suc d) (view b) p)
      → ((i : ℕ) → Mem i (up_to (entry_count p)) → EntryMoved (entry_at b (position p i)) × BelowMoves d (entry_at b (position p i)))
      → Moves (suc d) p
  unfolding row_at good_directory entries reached
  level d p z m g h =
      let ps = up_to (entry_count p) in
      let f = position p in
      let f' = position (to p) in
      let es = moved_entries p m in
      let c1 = conditions_cons (all (λ at. good_entry (view b) (entry_at b at)) (entries p)) _ g in
      let c2 = conditions_cons (names_apart (view b) (entries p)) _ c1.1 in
      record {
        row = ap (row_of (view b') (row_at d (view b'))) es ∙ rows_paired (row_at d (view b)) (row_at d (view b')) f f' ps (λ i k rest.
            ap (λ (e : Entry). entry_row (view b') (row_at d (view b')) e rest) (m.each i k) ∙ entry_row_lem d (entry_at b (f i)) (h i k).0 (h i k).1 rest);
        owns = owned_entries d b' (to p) ∙ ap (flat_map (λ at. own d b' (entry_at b' at))) es
            ∙ flat_map_paired to (λ at. own d b (entry_at b at)) (λ at. own d b' (entry_at b' at)) f f' ps (λ i k.
            ap (own d b') (m.each i k) ∙ entry_own d (entry_at b (f i)) (h i k).0 (h i k).1)
            ∙ ap (map to) (sym (owned_entries d b p));
        reaches = ap (flat_map (λ at. reached_by at (reached d (view b')) (entry_at b' at))) es
            ∙ flat_map_paired (carried_to to) (λ at. reached_by at (reached d (view b)) (entry_at b at)) (λ at. reached_by at (reached d (view b')) (entry_at b' at)) f f' ps (λ i k.
            ap₂ (λ (x : ℕ) (e : Entry). reached_by x (reached d (view b')) e) (m.stands i k) (m.each i k) ∙ entry_reached d (f i) (entry_at b (f i)) (h i k).1);
        good = subst (λ (l : List ℕ). T (conditions (all (λ at. good_entry (view b') (entry_at b' at)) l ∷ names_apart (view b') l ∷ all (λ at. in_directory true (good_directory d (view b')) (entry_at b' at)) l ∷ []))) (sym es)
            (cons_conditions _ _
            (occ_all (λ at. good_entry (view b') (entry_at b' at)) (map f' ps) (λ x k. let r = mem_map f' ps x k in
            subst (λ (y : ℕ). T (good_entry (view b') (entry_at b' y))) (sym r.2) (subst (λ (e : Entry). T (good_entry (view b') e)) (sym (m.each r.0 r.1))
            (entry_good z (entry_at b (f r.0)) (h r.0 r.1).0 (all_occ (λ at. good_entry (view b) (entry_at b at)) (entries p) c1.0 (f r.0) (in_entries p r.0 r.1))))))
            (cons_conditions _ _ (subst (λ (c : Bool). T c) (sym (apart_paired f f' ps m.each)) c2.0)
            (cons_conditions _ []
            (occ_all (λ at. in_directory true (good_directory d (view b')) (entry_at b' at)) (map f' ps) (λ x k. let r = mem_map f' ps x k in
            subst (λ (y : ℕ). T (in_directory true (good_directory d (view b')) (entry_at b' y))) (sym r.2) (subst (λ (e : Entry). T (in_directory true (good_directory d (view b')) e)) (sym (m.each r.0 r.1))
            (entry_below d (entry_at b (f r.0)) (h r.0 r.1).1))))
            no_conditions)));
      }

  -- ---- all levels

  -- an entry of a directory is reached from it, and so is what is below the entry
  reached_here : (d p at : ℕ) → Mem at (entries p) → (x : ℕ) → Mem x (reached_by at (reached d (view b)) (entry_at b at)) → Mem x (reached (suc d) (view b) p)
  unfolding reached
  reached_here d p at m x k = omega (arith, occ_flat_map_le (λ y. reached_by y (reached d (view b)) (entry_at b y)) (entries p) at x m)

  itself : (d at : ℕ) (e : Entry) → ((x : ℕ) → Mem x (reached_by at (reached d (view b)) e) → EntryMoved (entry_at b x)) → entry_at b at ≡ e → EntryMoved e
  unfolding reached_by
  itself d at vacant h q = tt
  itself d at (a_file locked name date start size) h q = subst EntryMoved q (h at (mem_head at []))
  itself d at (a_directory name date start size) h q = subst EntryMoved q (h at (mem_head at (reached d (view b) start)))

  deeper : (d at : ℕ) (e : Entry) → EntryMoved e → T (in_directory true (good_directory d (view b)) e)
      → ((x : ℕ) → Mem x (reached_by at (reached d (view b)) e) → EntryMoved (entry_at b x))
      → ((p : ℕ) → DirectoryMoved p → T (good_directory d (view b) p) → ((x : ℕ) → Mem x (reached d (view b) p) → EntryMoved (entry_at b x)) → Moves d p) → BelowMoves d e
  unfolding reached_by
  deeper d at vacant e g h go = tt
  deeper d at (a_file locked name date start size) e g h go = tt
  deeper d at (a_directory name date start size) e g h go = go start e g (λ x m. h x (mem_tail x at (reached d (view b) start) m))

  pub directory_moves : (d p : ℕ) → to 0 ≡ 0 → DirectoryMoved p → T (good_directory d (view b) p)
      → ((x : ℕ) → Mem x (reached d (view b) p) → EntryMoved (entry_at b x)) → Moves d p
  unfolding good_directory
  directory_moves zero p z m g h = absurd g
  directory_moves (suc d) p z m g h = level d p z m g (λ i k.
      let at : ℕ = position p i in
      let on : Mem at (entries p) = in_entries p i k in
      let hs : (x : ℕ) → Mem x (reached_by at (reached d (view b)) (entry_at b at)) → EntryMoved (entry_at b x) = λ x n. h x (reached_here d p at on x n) in
      let it : EntryMoved (entry_at b at) = itself d at (entry_at b at) hs refl in
      (it, deeper d at (entry_at b at) it (good_below d b p at g on) hs (λ q n u v. directory_moves d q z n u v)))
