-- What a directory means, reaches and owns, and whether it is good, hangs on its entries and on its owned pages alone, and not on the depth to
-- which it is read, if that is enough: each is put together from its entries, so it is the same where those are.
use mathlib.Core.Path.{◌≡◌, refl, sym, ap, ap₂, ◌∙◌}
use Prim.Native.Nat.{ℕ, zero, suc, ◌≤◌, ◌<◌}
use native.Mathlib.Omega.{arith}
use mathlib.Core.Bool.{Bool, true, not, ◌&&◌}
use mathlib.Core.List.{List, [], ◌∷◌, ◌++◌, flat_map}
use lib.ListN.{length, take, length-append}
use lib.Dec.{T, eqb}
use Rattle.volume.specs.Lists.{all}
use Rattle.volume.specs.Chain.{chain, beyond}
use Rattle.volume.proofs.Occ.{Mem, mem_head, mem_tail, occ_append}
use Rattle.volume.proofs.Tests.{conditions_cons, all_occ}
use Rattle.volume.proofs.Chains.{chain_frame}
use Rattle.volume.proofs.Flat.{flat_map_same}
use Rattle.model.specs.Name.{legal_name}
use Rattle.model.specs.Entry.{Entry, vacant, a_file, a_directory}
use Rattle.model.specs.View.{View, next}
use Rattle.model.specs.Sound.{pages_of, good_entry, same_name, names_apart, in_directory, good_directory, reached_by, reached, owned}
use Rattle.model.specs.Tree.{Row, file, dir}
use Rattle.model.specs.Image.{content_on, content_of, entry_row, row_of, row_at}
use Rattle.view_laws.proofs.Owns.{own, owned_entries, own_le, own_length, pages_own}

-- ---- lists

all_same : (f g : ℕ → Bool) (xs : List ℕ) → ((x : ℕ) → Mem x xs → f x ≡ g x) → all f xs ≡ all g xs
unfolding all
all_same f g [] h = refl
all_same f g (x ∷ xs) h = ap₂ (λ (c d : Bool). c && d) (h x (mem_head x xs)) (all_same f g xs (λ y m. h y (mem_tail y x xs m)))

apart_same : (v v' : View) (ats : List ℕ) → ((x : ℕ) → Mem x ats → v'.entry_at x ≡ v.entry_at x) → names_apart v' ats ≡ names_apart v ats
unfolding names_apart
apart_same v v' [] h = refl
apart_same v v' (at ∷ ats) h =
    ap₂ (λ (c d : Bool). c && d)
    (all_same (λ x. not (same_name (v'.entry_at at) (v'.entry_at x))) (λ x. not (same_name (v.entry_at at) (v.entry_at x))) ats
    (λ x m. ap₂ (λ (y z : Entry). not (same_name y z)) (h at (mem_head at ats)) (h x (mem_tail x at ats m))))
    (apart_same v v' ats (λ x m. h x (mem_tail x at ats m)))

pub rows_same : (v v' : View) (g g' : ℕ → Row) (ats : List ℕ)
    → ((x : ℕ) → Mem x ats → (rest : Row) → entry_row v' g' (v'.entry_at x) rest ≡ entry_row v g (v.entry_at x) rest) → row_of v' g' ats ≡ row_of v g ats
unfolding row_of
rows_same v v' g g' [] h = refl
rows_same v v' g g' (x ∷ xs) h =
    h x (mem_head x xs) (row_of v' g' xs) ∙ ap (entry_row v g (v.entry_at x)) (rows_same v v' g g' xs (λ y m. h y (mem_tail y x xs m)))

-- ---- one level

-- an entry's pages, what is on them, and its goodness are the same in both
pub record SamePages (v v' : View) (e : Entry) : Type 0 where
  pub pages : pages_of v' e ≡ pages_of v e
  pub content : flat_map (content_on v') (pages_of v e) ≡ flat_map (content_on v) (pages_of v e)
  pub good : good_entry v' e ≡ good_entry v e

-- the directory on page p, read in v to depth d and in v' to depth e
pub record SameDirectory (v v' : View) (d e p : ℕ) : Type 0 where
  pub row : row_at e v' p ≡ row_at d v p
  pub reach : reached e v' p ≡ reached d v p
  pub owns : owned e v' p ≡ owned d v p
  pub good : good_directory e v' p ≡ good_directory d v p

-- what an entry is in both: its fields, its pages, and what is below it
pub record SameEntry (v v' : View) (d e x : ℕ) : Type 0 where
  pub fields : v'.entry_at x ≡ v.entry_at x
  pub pages : SamePages v v' (v.entry_at x)
  pub below : in_directory (Unit {0}) (SameDirectory v v' d e) (v.entry_at x)

module _ (v v' : View) (d e : ℕ) where
  entry_row_lem : (x : Entry) → SamePages v v' x → in_directory (Unit {0}) (SameDirectory v v' d e) x → (rest : Row) → entry_row v' (row_at e v') x rest ≡ entry_row v (row_at d v) x rest
  unfolding entry_row content_of
  entry_row_lem vacant h s rest = refl
  entry_row_lem (a_file locked name date start size) h s rest =
      ap (λ (l : List ℕ). file locked name date (content_of v' size l) rest) h.pages ∙ ap {B = Row} (λ w. file locked name date (take size w) rest) h.content
  entry_row_lem (a_directory name date start size) h s rest = ap (λ (r : Row). dir name date r rest) s.row

  entry_reach : (at : ℕ) (x : Entry) → in_directory (Unit {0}) (SameDirectory v v' d e) x → reached_by at (reached e v') x ≡ reached_by at (reached d v) x
  unfolding reached_by
  entry_reach at vacant s = refl
  entry_reach at (a_file locked name date start size) s = refl
  entry_reach at (a_directory name date start size) s = ap (λ (l : List ℕ). at ∷ l) s.reach

  entry_own : (x : Entry) → SamePages v v' x → in_directory (Unit {0}) (SameDirectory v v' d e) x → own e v' x ≡ own d v x
  unfolding own pages_of
  entry_own vacant h s = refl
  entry_own (a_file locked name date start size) h s = h.pages
  entry_own (a_directory name date start size) h s = ap₂ (λ (l r : List ℕ). l ++ r) h.pages s.owns

  entry_below : (x : Entry) → in_directory (Unit {0}) (SameDirectory v v' d e) x → in_directory true (good_directory e v') x ≡ in_directory true (good_directory d v) x
  entry_below vacant s = refl
  entry_below (a_file locked name date start size) s = refl
  entry_below (a_directory name date start size) s = s.good

  pub same_row : {x : ℕ} → SameEntry v v' d e x → (rest : Row) → entry_row v' (row_at e v') (v'.entry_at x) rest ≡ entry_row v (row_at d v) (v.entry_at x) rest
  same_row {x} s rest = ap (λ (y : Entry). entry_row v' (row_at e v') y rest) s.fields ∙ entry_row_lem (v.entry_at x) s.pages s.below rest

  pub same_own : {x : ℕ} → SameEntry v v' d e x → own e v' (v'.entry_at x) ≡ own d v (v.entry_at x)
  same_own {x} s = ap (own e v') s.fields ∙ entry_own (v.entry_at x) s.pages s.below

  pub same_good : {x : ℕ} → SameEntry v v' d e x → good_entry v' (v'.entry_at x) ≡ good_entry v (v.entry_at x)
  same_good s = ap (good_entry v') s.fields ∙ s.pages.good

  pub same_below : {x : ℕ} → SameEntry v v' d e x → in_directory true (good_directory e v') (v'.entry_at x) ≡ in_directory true (good_directory d v) (v.entry_at x)
  same_below {x} s = ap (in_directory true (good_directory e v')) s.fields ∙ entry_below (v.entry_at x) s.below

  same_directory : {p : ℕ} → v'.entries p ≡ v.entries p → ((x : ℕ) → Mem x (v.entries p) → SameEntry v v' d e x) → SameDirectory v v' (suc d) (suc e) p
  unfolding row_at reached good_directory all
  same_directory {p} l h = record {
    row = ap (row_of v' (row_at e v')) l ∙ rows_same v v' (row_at d v) (row_at e v') (v.entries p) (λ x m. same_row (h x m));
    reach = ap (flat_map (λ x. reached_by x (reached e v') (v'.entry_at x))) l
        ∙ flat_map_same (λ x. reached_by x (reached e v') (v'.entry_at x)) (λ x. reached_by x (reached d v) (v.entry_at x)) (v.entries p) (λ x m.
        ap (reached_by x (reached e v')) (h x m).fields ∙ entry_reach x (v.entry_at x) (h x m).below);
    owns = owned_entries e v' p
        ∙ ap (flat_map (λ x. own e v' (v'.entry_at x))) l
        ∙ flat_map_same (λ x. own e v' (v'.entry_at x)) (λ x. own d v (v.entry_at x)) (v.entries p) (λ x m. same_own (h x m))
        ∙ sym (owned_entries d v p);
    good =
        ap (λ (ats : List ℕ). all (λ x. good_entry v' (v'.entry_at x)) ats && (names_apart v' ats && (all (λ x. in_directory true (good_directory e v') (v'.entry_at x)) ats && true))) l
        ∙ ap₂ (λ (c f : Bool). c && (names_apart v' (v.entries p) && (f && true)))
        (all_same (λ x. good_entry v' (v'.entry_at x)) (λ x. good_entry v (v.entry_at x)) (v.entries p) (λ x m. same_good (h x m)))
        (all_same (λ x. in_directory true (good_directory e v') (v'.entry_at x)) (λ x. in_directory true (good_directory d v) (v.entry_at x)) (v.entries p) (λ x m. same_below (h x m)))
        ∙ ap (λ (c : Bool). all (λ x. good_entry v (v.entry_at x)) (v.entries p) && (c && (all (λ x. in_directory true (good_directory d v) (v.entry_at x)) (v.entries p) && true)))
        (apart_same v v' (v.entries p) (λ x m. (h x m).fields));
  }

-- ---- two images

-- the directory p itself is read alike: its pages, and the entries on them
pub record ReadsAlike (v v' : View) (p : ℕ) : Type 0 where
  pub pages : v'.directory_pages p ≡ v.directory_pages p
  pub ends : v'.directory_ends p ≡ v.directory_ends p
  pub positions : v'.entries p ≡ v.entries p
  pub fields : (x : ℕ) → Mem x (v.entries p) → v'.entry_at x ≡ v.entry_at x

-- What a version owes of two images: `Same q` says that page q is the same in both, and what is on such pages is read alike.
pub record Follows (v v' : View) (Same : ℕ → Type 0) : Type 0 where
  pub size : v'.geometry.size ≡ v.geometry.size
  pub counts : (size : ℕ) → v'.numbers.pages_for size ≡ v.numbers.pages_for size
  pub linked : (q : ℕ) → 1 ≤ q → Same q → next v' q ≡ next v q
  pub content : (q : ℕ) → 1 ≤ q → Same q → content_on v' q ≡ content_on v q
  pub directory : (p : ℕ) → ((q : ℕ) → Mem q (v.directory_pages p) → Same q) → ReadsAlike v v' p

-- the pages are none of the header's and the same in both
abbrev pub Unchanged : (ℕ → Type 0) → List ℕ → Type 0
Unchanged Same ps = (q : ℕ) → Mem q ps → (1 ≤ q) × Same q

module _ {v v' : View} {Same : ℕ → Type 0} (w : Follows v v' Same) where
  chain_same : (k p : ℕ) → Unchanged Same (chain (next v) k p) → (chain (next v') k p ≡ chain (next v) k p) × (beyond (next v') k p ≡ beyond (next v) k p)
  chain_same k p h =
      let r = chain_frame (next v) (next v') k p (λ q m. sym (w.linked q (h q m).0 (h q m).1)) in
      (sym r.0, sym r.1)

  content_same : (ps : List ℕ) → Unchanged Same ps → flat_map (content_on v') ps ≡ flat_map (content_on v) ps
  content_same ps h = flat_map_same (content_on v') (content_on v) ps (λ q m. w.content q (h q m).0 (h q m).1)

  pub unchanged_pages : (e : Entry) → Unchanged Same (pages_of v e) → SamePages v v' e
  unfolding good_entry pages_of
  unchanged_pages vacant h = record { pages = refl; content = content_same [] h; good = refl }
  unchanged_pages (a_file locked name date start size) h =
      let k : v'.numbers.pages_for size ≡ v.numbers.pages_for size = w.counts size in
      let r = chain_same (v.numbers.pages_for size) start h in
      record {
        pages = ap (λ (n : ℕ). chain (next v') n start) k ∙ r.0;
        content = content_same (chain (next v) (v.numbers.pages_for size) start) h;
        good = ap (λ (n : ℕ). legal_name name && eqb (beyond (next v') n start) 0) k ∙ ap (λ (n : ℕ). legal_name name && eqb n 0) r.1;
      }
  unchanged_pages (a_directory name date start size) h =
      let s = w.directory start (λ q m. (h q m).1) in
      record {
        pages = s.pages;
        content = content_same (v.directory_pages start) h;
        good = ap₂ (λ (c : Bool) (n : ℕ). c && (legal_name name && eqb size n)) s.ends w.size;
      }

  -- an entry whose pages, with those below it, are unchanged
  unchanged_below : (d : ℕ) (e : Entry) → ((p : ℕ) → ((q : ℕ) → Mem q (v.directory_pages p) → Same q) → Unchanged Same (owned d v p) → SameDirectory v v' d d p)
      → Unchanged Same (own d v e) → in_directory (Unit {0}) (SameDirectory v v' d d) e
  unfolding own
  unchanged_below d vacant frame h = tt
  unchanged_below d (a_file locked name date start size) frame h = tt
  unchanged_below d (a_directory name date start size) frame h =
      frame start (λ q m. (h q (omega (arith, occ_append q (v.directory_pages start) (owned d v start)))).1)
      (λ q m. h q (omega (arith, occ_append q (v.directory_pages start) (owned d v start))))

  -- an entry with its fields, its pages and those below it unchanged
  entry_unchanged : {d x : ℕ} → ((p : ℕ) → ((q : ℕ) → Mem q (v.directory_pages p) → Same q) → Unchanged Same (owned d v p) → SameDirectory v v' d d p)
      → v'.entry_at x ≡ v.entry_at x → Unchanged Same (own d v (v.entry_at x)) → SameEntry v v' d d x
  entry_unchanged {d} {x} frame f h = record {
    fields = f;
    pages = unchanged_pages (v.entry_at x) (λ q c. h q (omega (arith, pages_own d v (v.entry_at x) q)));
    below = unchanged_below d (v.entry_at x) frame h;
  }

  pub directory_frame : {d : ℕ} (p : ℕ) → ((q : ℕ) → Mem q (v.directory_pages p) → Same q) → Unchanged Same (owned d v p) → SameDirectory v v' d d p
  unfolding row_at reached good_directory flat_map
  directory_frame {d = zero} p h k = record { row = refl; reach = refl; owns = refl; good = refl }
  directory_frame {d = suc d} p h k =
      let s = w.directory p h in
      same_directory v v' d d s.positions (λ x m. entry_unchanged (directory_frame) (s.fields x m) (λ q c. k q (omega (arith, own_le d v p x q m))))

  pub entry_frame : (d x : ℕ) → v'.entry_at x ≡ v.entry_at x → Unchanged Same (own d v (v.entry_at x)) → SameEntry v v' d d x
  entry_frame d x = entry_unchanged (directory_frame)

-- ---- two depths

pub good_below : (d : ℕ) (v : View) (p x : ℕ) → T (good_directory (suc d) v p) → Mem x (v.entries p) → T (in_directory true (good_directory d v) (v.entry_at x))
unfolding good_directory
good_below d v p x h m =
    let r = conditions_cons (all (λ at. good_entry v (v.entry_at at)) (v.entries p)) _ h in
    let s = conditions_cons (names_apart v (v.entries p)) _ r.1 in
    let t = conditions_cons (all (λ at. in_directory true (good_directory d v) (v.entry_at at)) (v.entries p)) [] s.1 in
    all_occ (λ at. in_directory true (good_directory d v) (v.entry_at at)) (v.entries p) t.0 x m

-- a directory has its first page
abbrev pub Headed : View → Type 0
Headed v = (p : ℕ) → Mem p (v.directory_pages p)

pub mem_long : (p : ℕ) (ps : List ℕ) → Mem p ps → 1 ≤ length ps
mem_long p [] m = absurd (omega arith)
mem_long p (x ∷ ps) m = omega arith

-- what is below an entry of a good directory, to another depth
below_deeper : (v : View) → Headed v → (d e : ℕ) (x : Entry) → T (in_directory true (good_directory d v) x)
    → ((s : ℕ) → T (good_directory d v s) → length (owned d v s) < length (own d v x) → SameDirectory v v d e s) → in_directory (Unit {0}) (SameDirectory v v d e) x
unfolding own
below_deeper v u d e vacant h f = tt
below_deeper v u d e (a_file locked name date start size) h f = tt
below_deeper v u d e (a_directory name date start size) h f =
    f start h (omega (arith, length-append (v.directory_pages start) (owned d v start), mem_long start (v.directory_pages start) (u start)))

deeper : {v : View} {d e p : ℕ} → ((x : ℕ) → Mem x (v.entries p) → in_directory (Unit {0}) (SameDirectory v v d e) (v.entry_at x)) → SameDirectory v v (suc d) (suc e) p
deeper {v} {d} {e} {p} h = same_directory v v d e refl (λ x m. record { fields = refl; pages = record { pages = refl; content = refl; good = refl }; below = h x m })

-- more depth than enough changes nothing
pub depth : {d e : ℕ} {v : View} {p : ℕ} → Headed v → T (good_directory d v p) → d ≤ e → SameDirectory v v d e p
unfolding good_directory
depth {d = zero} u g l = absurd g
depth {d = suc d} {e = zero} u g l = absurd (omega arith)
depth {d = suc d} {e = suc e} {v} {p} u g l = deeper (λ x m. below_deeper v u d e (v.entry_at x) (good_below d v p x g m) (λ s k o. depth u k (omega arith)))

-- a depth above the number of owned pages is enough
pub depth_count : {d : ℕ} (e : ℕ) {v : View} {p : ℕ} → Headed v → T (good_directory d v p) → length (owned d v p) < e → SameDirectory v v d e p
unfolding good_directory
depth_count {d = zero} e u g l = absurd g
depth_count {d = suc d} zero u g l = absurd (omega arith)
depth_count {d = suc d} (suc e) {v} {p} u g l =
    deeper (λ x m. below_deeper v u d e (v.entry_at x) (good_below d v p x g m) (λ s k o. depth_count e u k (omega (arith, own_length d v p x m))))
