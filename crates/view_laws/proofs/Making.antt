-- An entry that is made: the lowest vacant one of its directory becomes the new one, so the row gains it and nothing else.
use mathlib.Core.Path.{◌≡◌, refl, sym, ap, ◌∙◌, subst}
use Prim.Native.Nat.{ℕ, suc, ◌+◌, ◌≤◌, ◌<◌}
use native.Mathlib.Omega.{arith}
use mathlib.Core.Bool.{true, not}
use mathlib.Core.Option.{Option, none, some, get_or, map, none-ne-some}
use mathlib.Core.List.{List, [], ◌∷◌}
use lib.ListN.{length}
use lib.Dec.{T, eqb, eqb→eq, T_not, not_T}
use Rattle.volume.specs.Bytes.{Bytes, put}
use Rattle.std.specs.Prelude.{if◌then◌else◌}
use Rattle.volume.specs.Lists.{first}
use Rattle.volume.specs.Field.{Field, load}
use Rattle.volume.specs.Geometry as On
use Rattle.volume.proofs.Occ.{occ, Mem}
use Rattle.volume.proofs.Tests.{first_found, first_none, eq-eqb}
use Rattle.volume.proofs.Fields.{place, wide}
use Rattle.volume.proofs.Lawful.{Sized}
use Rattle.volume.proofs.Grow.{Gained, gained_is}
use Rattle.volume.proofs.Entries.{Made, made_is}
use Rattle.model.specs.Entry.{Entry, vacant, a_file, a_directory}
use Rattle.model.specs.View.{View}
use Rattle.model.specs.Sound.{good_entry, is_named, same_name, in_directory, good_directory}
use Rattle.model.specs.Tree.{Row, width, held as heldIn, is_full, Node, lookup, fill}
use Rattle.model.specs.Path.{Name}
use Rattle.model.specs.Image.{entry_row, row_of, row_at}
use Rattle.model.specs.Walk.{entry_named, change_at}
use Rattle.model.specs.Effect.{is_vacant}
use Rattle.model.specs.Refusal.{is_there}
use Rattle.view_laws.proofs.Owns.{own}
use Rattle.view_laws.proofs.Facts.{Facts}
use Rattle.view_laws.proofs.Focus.{Leads}
use Rattle.view_laws.proofs.Change.{Works}
use Rattle.view_laws.proofs.Walks.{node_of, lookup_named}
use Rattle.view_laws.proofs.Rows.{held_few}
use Rattle.view_laws.proofs.Shelf.{Shelf, seen, Shelved, lies, entry_changed}

-- ---- the lowest vacant entry, and a name that is not there

all_held : (v : View) (g : ℕ → Row) (ats : List ℕ) → first (λ x. is_vacant (v.entry_at x)) ats ≡ none → heldIn (row_of v g ats) ≡ width (row_of v g ats)
unfolding heldIn width row_of first entry_row is_vacant
all_held v g [] e = refl
all_held v g (x ∷ xs) e = go (v.entry_at x) e (all_held v g xs)
  where
    go : (y : Entry) → (if is_vacant y then some x else first (λ z. is_vacant (v.entry_at z)) xs) ≡ none
        → (first (λ z. is_vacant (v.entry_at z)) xs ≡ none → heldIn (row_of v g xs) ≡ width (row_of v g xs))
        → heldIn (entry_row v g y (row_of v g xs)) ≡ width (entry_row v g y (row_of v g xs))
    go vacant u next = let bad : ◌≡◌ {A = ℕ} 0 1 = cc in absurd (omega (arith, bad))
    go (a_file locked name date start size) u next = ap suc (next u)
    go (a_directory name date start size) u next = ap suc (next u)

some_held : (v : View) (g : ℕ → Row) (ats : List ℕ) (at : ℕ) → first (λ x. is_vacant (v.entry_at x)) ats ≡ some at
    → heldIn (row_of v g ats) < width (row_of v g ats)
unfolding heldIn width row_of first entry_row is_vacant
some_held v g [] at e = absurd (none-ne-some _ e)
some_held v g (x ∷ xs) at e = go (v.entry_at x) e (some_held v g xs at)
  where
    go : (y : Entry) → (if is_vacant y then some x else first (λ z. is_vacant (v.entry_at z)) xs) ≡ some at
        → (first (λ z. is_vacant (v.entry_at z)) xs ≡ some at → heldIn (row_of v g xs) < width (row_of v g xs))
        → heldIn (entry_row v g y (row_of v g xs)) < width (entry_row v g y (row_of v g xs))
    go vacant u next = omega (arith, held_few (row_of v g xs))
    go (a_file locked name date start size) u next = omega (arith, next u)
    go (a_directory name date start size) u next = omega (arith, next u)

-- a directory without a vacant entry is full, and one with such an entry is not
pub none_full : (v : View) (d p : ℕ) → first (λ x. is_vacant (v.entry_at x)) (v.entries p) ≡ none → T (is_full (row_at (suc d) v p))
unfolding row_at
none_full v d p e = eq-eqb (all_held v (row_at d v) (v.entries p) e)

pub some_roomy : (v : View) (d p at : ℕ) → first (λ x. is_vacant (v.entry_at x)) (v.entries p) ≡ some at → T (not (is_full (row_at (suc d) v p)))
unfolding row_at
some_roomy v d p at e =
    let r : Row = row_of v (row_at d v) (v.entries p) in
    not_T (is_full r) (λ t. omega (arith, eqb→eq (heldIn r) (width r) t, some_held v (row_at d v) (v.entries p) at e))

pub some_vacant : (v : View) (d p : ℕ) → T (not (eqb (heldIn (row_at (suc d) v p)) (width (row_at (suc d) v p)))) → first (λ x. is_vacant (v.entry_at x)) (v.entries p) ≡ some (get_or (first (λ x. is_vacant (v.entry_at x)) (v.entries p)) 0)
unfolding row_at
some_vacant v d p h = go (first (λ x. is_vacant (v.entry_at x)) (v.entries p)) refl
  where
    go : (o : Option ℕ) → first (λ x. is_vacant (v.entry_at x)) (v.entries p) ≡ o → o ≡ some (get_or o 0)
    go none e = absurd (T_not (eqb (heldIn (row_of v (row_at d v) (v.entries p))) (width (row_of v (row_at d v) (v.entries p)))) h (eq-eqb (all_held v (row_at d v) (v.entries p) e)))
    go (some x) e = refl

pub not_named : (v : View) (d p : ℕ) (n : Bytes) → T (not (is_there (lookup n (row_at (suc d) v p)))) → (x : ℕ) → Mem x (v.entries p) → T (not (is_named n (v.entry_at x)))
unfolding is_there entry_named
not_named v d p n h = go (first (λ x. is_named n (v.entry_at x)) (v.entries p)) refl
    (subst (λ (o : Option Node). T (not (is_there o))) (lookup_named v d p n) h)
  where
    go : (o : Option ℕ) → first (λ x. is_named n (v.entry_at x)) (v.entries p) ≡ o → T (not (is_there (map (λ at. node_of v (row_at d v) (v.entry_at at)) o)))
        → (x : ℕ) → Mem x (v.entries p) → T (not (is_named n (v.entry_at x)))
    go none e k x m = first_none (λ y. is_named n (v.entry_at y)) (v.entries p) e x m
    go (some y) e k x m = absurd k

-- ---- fill

fill_skip : (v : View) (g : ℕ → Row) (h : Row → Row) (x : Entry) → T (not (is_vacant x)) → (rest : Row) → fill h (entry_row v g x rest) ≡ entry_row v g x (fill h rest)
unfolding fill entry_row is_vacant
fill_skip v g h vacant u rest = absurd u
fill_skip v g h (a_file locked name date start size) u rest = refl
fill_skip v g h (a_directory name date start size) u rest = refl

fill_work : (v : View) (g : ℕ → Row) (h : Row → Row) (x : Entry) → T (is_vacant x) → (rest : Row) → fill h (entry_row v g x rest) ≡ h rest
unfolding fill entry_row is_vacant
fill_work v g h vacant u rest = refl
fill_work v g h (a_file locked name date start size) u rest = absurd u
fill_work v g h (a_directory name date start size) u rest = absurd u

vacant_own : (d : ℕ) (v : View) (x : Entry) → T (is_vacant x) → own d v x ≡ []
unfolding own is_vacant
vacant_own d v vacant u = refl
vacant_own d v (a_file locked name date start size) u = absurd u
vacant_own d v (a_directory name date start size) u = absurd u

-- ---- the entry afterwards

-- the new entry is x, good also below, with a name that no other has, and `h` puts it before the rest of a row
fill_works : (v v' : View) (e t at : ℕ) (h : Row → Row) (x : Entry) (name : Bytes)
    → first (λ y. is_vacant (v.entry_at y)) (v.entries t) ≡ some at → v'.entry_at at ≡ x
    → T (good_entry v' x) → T (in_directory true (good_directory e v') x)
    → ((y : ℕ) → Mem y (v.entries t) → T (not (is_named name (v.entry_at y)))) → ((y : Entry) → T (not (is_named name y)) → T (not (same_name x y)))
    → ((rest : Row) → h rest ≡ entry_row v' (row_at e v') x rest)
    → Works v v' e t at (fill h) is_vacant
fill_works v v' e t at h x name found is good below free apart means = record {
  skip = fill_skip v (row_at e v) h;
  work = λ rest.
      fill_work v (row_at e v) h (v.entry_at at) (first_found (λ y. is_vacant (v.entry_at y)) (v.entries t) at found).1 rest
      ∙ means rest ∙ ap (λ (y : Entry). entry_row v' (row_at e v') y rest) (sym is);
  found = found;
  good = subst (λ (y : Entry). T (good_entry v' y)) (sym is) good;
  below = subst (λ (y : Entry). T (in_directory true (good_directory e v') y)) (sym is) below;
  name = λ y m ne. subst (λ (z : Entry). T (not (same_name z (v.entry_at y)))) (sym is) (apart (v.entry_at y) (free y m));
}

-- ---- with k new pages, on any shelf

-- the new entry's bytes `new` are 32, in which `field` stands for its start page and holds 0
module _ {s : Shelf} (w : Shelved s) {b : Bytes} (sized : Sized s.geometry s.pages b) (f : Facts (seen s b)) (names : List Name) (e t at k : ℕ) (new : Bytes) (field : Field)
    (leads : Leads (seen s b) s.pages 0 names (suc e) t) (good : T (good_directory (suc e) (seen s b) t)) (ends : T (s.directory_ends b t))
    (found : first (λ x. is_vacant (s.entry_at b x)) (s.entries b t) ≡ some at) (space : k ≤ On.zero_bits s.geometry b s.pages)
    (long : length new ≡ 32) (low : at ≤ place field) (high : place field + wide field ≤ at + 32) (zero_in : load field (put at new b) ≡ 0) where
  abbrev qs : List ℕ
  qs = On.gained s.geometry s.pages k b

  abbrev b' : Bytes
  b' = On.grown s.geometry s.pages k field (put at new b)

  here : Mem at (s.entries b t) × T (is_vacant (s.entry_at b at))
  here = first_found (λ x. is_vacant (s.entry_at b x)) (s.entries b t) at found

  pub made_bytes : Made s.geometry s.home s.pages b b' at new field k qs
  made_bytes =
      let o = lies w f names e t leads at here.0 in
      made_is w.law b at o.page new field k sized f.aside w.high
      (record { inside = omega (arith, long, o.inside sized); bytes = λ i l u. o.bytes i l (omega (arith, long, u)); page = o.real; marked = o.marked })
      low (omega (arith, high, long)) zero_in space

  pub made_gained : Gained s.geometry s.pages k b
  made_gained = gained_is w.law k b sized f.aside space

  -- what the new entry x must be like; the rest follows
  pub made_sound : (h : Row → Row) (x : Entry) (name : Bytes) → s.entry_at b' at ≡ x → own e (seen s b') x ≡ qs
      → T (good_entry (seen s b') x) → T (in_directory true (good_directory e (seen s b')) x)
      → ((y : ℕ) → Mem y (s.entries b t) → T (not (is_named name (s.entry_at b y)))) → ((y : Entry) → T (not (is_named name y)) → T (not (same_name x y)))
      → ((rest : Row) → h rest ≡ entry_row (seen s b') (row_at e (seen s b')) x rest)
      → Facts (seen s b') × (row_at s.pages (seen s b') 0 ≡ change_at names (fill h) (row_at s.pages (seen s b) 0))
  made_sound h x name is mine good' below free apart means =
      let m = made_bytes in
      let fresh = made_gained.new in
      let before : own e (seen s b) (s.entry_at b at) ≡ [] = vacant_own e (seen s b) (s.entry_at b at) here.1 in
      let after : own e (seen s b') (s.entry_at b' at) ≡ qs = ap (own e (seen s b')) is ∙ mine in
      entry_changed w f names e t leads b' at qs here.0
      (λ q c. let r = fresh q c in (omega (arith, r.0, w.law.header), λ o. absurd (omega (arith, r.2, f.exact q r.0 r.1, o))))
      m.size (λ i k z u. m.rest i k (λ y. omega (arith, long, z y)) u)
      (fill h) is_vacant good ends (fill_works (seen s b) (seen s b') e t at h x name found is good' below free apart means)
      (record {
        bits = λ q u. omega (arith, ap (occ q) before, ap (occ q) after, m.bits q u);
        count = omega (arith, ap length before, ap length after, made_gained.many, m.count, f.counted, space);
        fresh_in = λ q c. let r = fresh q (subst (λ (ps : List ℕ). Mem q ps) after c) in (r.0, r.1);
      })
