-- One induction over the judge's walk, which says all that is said of it: each step passes the facts on to the next, and a directory's pages get
-- their owner before its entries are judged, so the depth that is left is enough for the pages that have none. What is said of the faults that are
-- told is a property P.
use mathlib.Core.Path.{◌≡◌, refl, sym, ap, ◌∙◌, subst}
use mathlib.Core.Logic.{inl, inr}
use Prim.Native.Nat.{ℕ, zero, suc, ◌+◌, ◌-◌, ◌≤◌, ◌<◌}
use native.Mathlib.Nat.{le_refl, le_trans}
use native.Mathlib.Omega.{arith}
use mathlib.Core.Bool.{Bool, true, false, ◌&&◌}
use mathlib.Core.Option.{Option, none, some}
use mathlib.Core.List.{List, [], ◌∷◌, tail}
use lib.ListN.{length, get_or, set, replicate, length-set, length-replicate}
use lib.Dec.{eqb, leb, ltb}
use borrow.Author.Tests.{eqb-true, ltb-true, leb-true}
use Rattle.std.specs.Prelude.{if◌then◌else◌}
use Rattle.volume.specs.Lists.{count_from, first}
use Rattle.volume.proofs.Occ.{Mem, mem_cons}
use Rattle.volume.proofs.Tests.{first_found, count_from_occ}
use Rattle.model.specs.Entry.{Entry, vacant, a_file, a_directory}
use Rattle.model.specs.View.{View, next, page_bit, zero_bits, free_count}
use Rattle.model.specs.Sound.{marked_below}
use Rattle.model.specs.Judge.{Fault, bad_entry, bad_chain, owned_twice, marked_free, lost_page, bad_count, Judged, fault, clean}
use Rattle.model.specs.Judge.{then_judge, judge_page, judge_chain, judge_pages, fresh_name, judge_entry, judge_entries, judge_directory, judge_root, lost_or, judge_rest, judge_view}
use Rattle.view_laws.specs.Marks.{zeros, unowned}
use Rattle.view_laws.proofs.Frame.{Headed}
use Rattle.view_laws.proofs.Facts.{Rooted}

-- ---- how many pages have no owner

zeros_set : (m : List ℕ) (p : ℕ) → p < length m → get_or m p 0 ≡ 0 → zeros m ≡ suc (zeros (set m p 1))
unfolding zeros
zeros_set [] p l h = absurd (omega arith)
zeros_set (x ∷ m) zero l h = omega arith
zeros_set (x ∷ m) (suc p) l h = omega (arith, zeros_set m p (omega arith) h)

unowned_set : (m : List ℕ) (p : ℕ) → 1 ≤ p → p < length m → get_or m p 0 ≡ 0 → unowned m ≡ suc (unowned (set m p 1))
unfolding unowned
unowned_set [] p k l h = absurd (omega arith)
unowned_set (x ∷ m) zero k l h = absurd (omega arith)
unowned_set (x ∷ m) (suc p) k l h = zeros_set m p (omega arith) h

zeros_le : (m : List ℕ) (p : ℕ) → zeros (set m p 1) ≤ zeros m
unfolding zeros
zeros_le [] p = le_refl _
zeros_le (x ∷ m) zero = omega arith
zeros_le (x ∷ m) (suc p) = omega (arith, zeros_le m p)

-- an owner is not given back
unowned_le : (m : List ℕ) (p : ℕ) → unowned (set m p 1) ≤ unowned m
unfolding unowned
unowned_le [] p = le_refl _
unowned_le (x ∷ m) zero = le_refl _
unowned_le (x ∷ m) (suc p) = zeros_le m p

unowned_most : (m : List ℕ) → unowned m ≤ length m
unfolding unowned zeros
unowned_most [] = omega arith
unowned_most (x ∷ m) = omega (arith, most m)
  where
    most : (l : List ℕ) → zeros l ≤ length l
    most [] = omega arith
    most (y ∷ l) = omega (arith, most l)

zeros_all : (n : ℕ) → zeros (replicate n 0) ≡ n
unfolding zeros
zeros_all zero = refl
zeros_all (suc n) = omega (arith, zeros_all n)

pub unowned_all : (n : ℕ) → unowned (replicate (suc n) 0) ≡ n
unfolding unowned
unowned_all n = zeros_all n

unowned_few : (n : ℕ) → 1 ≤ n → unowned (replicate n 0) < n
unowned_few zero l = absurd (omega arith)
unowned_few (suc n) l = omega (arith, unowned_all n)

-- ---- one page

pub never : {A : Type 0} {m : List ℕ} {f : Fault} → clean m ≡ fault f → A
never e = let z : ◌≡◌ {A = ℕ} 0 1 = cc in absurd (omega arith)

-- a page that gets an owner had none, so one page fewer has none
pub record Made (m : List ℕ) (p : ℕ) (m' : List ℕ) : Type 0 where
  pub here : p < length m
  pub fewer : unowned m ≡ suc (unowned m')

pub page_made : (v : View) → 1 ≤ v.geometry.aside → (range : Fault) (p : ℕ) (m m' : List ℕ) → length m ≡ v.pages → clean m' ≡ judge_page v range p m → Made m p m'
unfolding judge_page
page_made v low range p m m' each e =
    go (leb v.geometry.aside p) (ltb p v.pages) (eqb (get_or m p 0) 0) (eqb (page_bit v p) 1) refl refl refl e
  where
    go : (behind high free marked : Bool) → leb v.geometry.aside p ≡ behind → ltb p v.pages ≡ high → eqb (get_or m p 0) 0 ≡ free
        → clean m'
        ≡ (if behind && high then (if free then (if marked then clean (set m p 1) else fault (marked_free p)) else fault (owned_twice p)) else fault range)
        → Made m p m'
    go true true true true l h f e' =
        let k : p < length m = omega (arith, ltb-true p v.pages h) in
        let one : 1 ≤ p = le_trans low (leb-true v.geometry.aside p l) in
        let same : m' ≡ set m p 1 = cc in
        record { here = k; fewer = unowned_set m p one k (eqb-true (get_or m p 0) 0 f) ∙ ap (λ (s : List ℕ). suc (unowned s)) (sym same) }
    go true true true false l h f e' = never e'
    go true true false marked l h f e' = never e'
    go true false free marked l h f e' = never e'
    go false high free marked l h f e' = never e'

-- ---- what is passed on

-- from the marks m: a fault that is told has the property, and a clean walk has kept a mark for each page and given no owner back
abbrev pub Kept : (Fault → Type 0) → (n : ℕ) (m : List ℕ) → Judged → Type 0
Kept P n m (fault f) = P f
Kept P n m (clean l) = (length l ≡ n) × (unowned l ≤ unowned m)

-- two walks from the marks m come to the same
pub record Comes (P : Fault → Type 0) (n : ℕ) (m : List ℕ) (j k : Judged) : Type 0 where
  pub same : j ≡ k
  pub kept : Kept P n m j

comes : {P : Fault → Type 0} {n : ℕ} {m : List ℕ} {j : Judged} → Kept P n m j → Comes P n m j j
comes h = record { same = refl; kept = h }

comes_if : {P : Fault → Type 0} (c : Bool) (f : Fault) {n : ℕ} {m : List ℕ} {j k : Judged} → Comes P n m j k → P f
    → Comes P n m (if c then j else fault f) (if c then k else fault f)
comes_if true f h p = h
comes_if false f h p = comes p

comes_then : {P : Fault → Type 0} {n : ℕ} {m : List ℕ} (j k : Judged) (on on' : List ℕ → Judged) → Comes P n m j k
    → ((l : List ℕ) → clean l ≡ j → length l ≡ n → unowned l ≤ unowned m → Comes P n l (on l) (on' l)) → Comes P n m (then_judge j on) (then_judge k on')
unfolding then_judge
comes_then (fault f) k on on' h next = record { same = ap (λ (x : Judged). then_judge x on') h.same; kept = h.kept }
comes_then {P} {n} {m} (clean l) k on on' h next =
    let more = next l refl h.kept.0 h.kept.1 in
    record { same = more.same ∙ ap (λ (x : Judged). then_judge x on') h.same; kept = less (on l) more.kept }
  where
    less : (x : Judged) → Kept P n l x → Kept P n m x
    less (fault f) w = w
    less (clean s) w = (w.0, le_trans w.1 h.kept.1)

-- ---- the walk

-- what a version owes of each view: a directory has its first page, and the root begins with the header, which is set aside
pub record Paged (v : View) : Type 0 where
  pub headed : Headed v
  pub rooted : Rooted v
  pub low : 1 ≤ v.geometry.aside

-- the pages of a directory lie in the image
abbrev pub Inside : View → ℕ → Type 0
Inside v d = (q : ℕ) → Mem q (v.directory_pages d) → q < v.pages

-- All faults that the walk can tell have the property: those of an entry whose directory lies in the image; those of the root's own pages, where it
-- has any; and those of a page of the image. No more pages of a chain passed than there are.
pub record Tellable (v : View) (P : Fault → Type 0) : Type 0 where
  pub entry : (d i : ℕ) → Inside v d → i < length (v.entries d) → P (bad_entry (v.place_of d i).0 (v.place_of d i).1)
  pub chain : (d i passed : ℕ) → Inside v d → i < length (v.entries d) → passed ≤ v.pages → P (bad_chain (v.place_of d i).0 (v.place_of d i).1 passed)
  pub root : (passed : ℕ) → passed < length (tail (v.directory_pages 0)) → passed ≤ v.pages → P (bad_chain 0 255 passed)
  pub twice : (p : ℕ) → p < v.pages → P (owned_twice p)
  pub free : (p : ℕ) → p < v.pages → P (marked_free p)

mem_length : (q : ℕ) (ps : List ℕ) → Mem q ps → 1 ≤ length ps
mem_length q [] m = absurd (omega arith)
mem_length q (p ∷ ps) m = omega arith

module _ {v : View} {P : Fault → Type 0} (paged : Paged v) (tellable : Tellable v P) where
  comes_page : (range : Fault) (p : ℕ) (m : List ℕ) → length m ≡ v.pages → P range → Comes P v.pages m (judge_page v range p m) (judge_page v range p m)
  unfolding judge_page
  comes_page range p m each h = comes (go (leb v.geometry.aside p) (ltb p v.pages) (eqb (get_or m p 0) 0) (eqb (page_bit v p) 1) refl)
    where
      go : (behind high free marked : Bool) → ltb p v.pages ≡ high → Kept P v.pages m
          (if behind && high then (if free then (if marked then clean (set m p 1) else fault (marked_free p)) else fault (owned_twice p)) else fault range)
      go true true true true e = (length-set m p 1 ∙ each, unowned_le m p)
      go true true true false e = tellable.free p (ltb-true p v.pages e)
      go true true false marked e = tellable.twice p (ltb-true p v.pages e)
      go true false free marked e = h
      go false high free marked e = h

  -- each page that passed has its owner, and had none
  comes_chain : (d i k passed p : ℕ) (m : List ℕ) → ((k : ℕ) → k ≤ v.pages → P (bad_chain d i k)) → length m ≡ v.pages → passed + unowned m ≤ v.pages
      → Comes P v.pages m (judge_chain v d i k passed p m) (judge_chain v d i k passed p m)
  unfolding judge_chain
  comes_chain d i zero passed p m bad each room = comes_if (eqb p 0) (bad_chain d i passed) (comes (each, le_refl _)) (bad passed (omega arith))
  comes_chain d i (suc k) passed p m bad each room =
      let page = judge_page v (bad_chain d i passed) p m in
      let rest = judge_chain v d i k (suc passed) (next v p) in
      comes_then page page rest rest (comes_page (bad_chain d i passed) p m each (bad passed (omega arith))) (λ l e long less.
      let made = page_made v paged.low (bad_chain d i passed) p m l each e in
      comes_chain d i k (suc passed) (next v p) l bad long (omega (arith, made.fewer)))

  -- the pages of a directory, and then what follows: all of them lie in the image, and so many fewer have no owner
  comes_pages : (d i passed : ℕ) (ps : List ℕ) (f g : List ℕ → Judged) (m : List ℕ)
      → ((k : ℕ) → k < passed + length ps → k ≤ v.pages → P (bad_chain d i k)) → length m ≡ v.pages → passed + unowned m ≤ v.pages
      → ((l : List ℕ) → length l ≡ v.pages → unowned l + length ps ≡ unowned m → ((q : ℕ) → Mem q ps → q < v.pages) → Comes P v.pages l (f l) (g l))
      → Comes P v.pages m (judge_pages v d i passed ps f m) (judge_pages v d i passed ps g m)
  comes_pages d i passed [] f g m bad each room on = on m each (omega arith) (λ q k. absurd (omega arith))
  comes_pages d i passed (p ∷ ps) f g m bad each room on =
      let page = judge_page v (bad_chain d i passed) p m in
      comes_then page page (judge_pages v d i (suc passed) ps f) (judge_pages v d i (suc passed) ps g)
      (comes_page (bad_chain d i passed) p m each (bad passed (omega arith) (omega arith))) (λ l e long less.
      let made = page_made v paged.low (bad_chain d i passed) p m l each e in
      comes_pages d i (suc passed) ps f g l (λ k u w. bad k (omega arith) w) long (omega (arith, made.fewer)) (λ s far fewer inside.
      on s far (omega (arith, fewer, made.fewer)) (λ q w. elim (mem_cons q p ps w) [ inl y ↦ omega (arith, y, made.here) | inr y ↦ inside q y ])))

  -- two judges of a directory that come to the same where fewer than u pages have no owner
  module _ (f g : ℕ → List ℕ → Judged) (u : ℕ)
      (below : (p : ℕ) (m : List ℕ) → Inside v p → length m ≡ v.pages → unowned m < u → Comes P v.pages m (f p m) (g p m)) where
    pub comes_entry : (d i : ℕ) (ear : List ℕ) (e : Entry) (m : List ℕ)
        → P (bad_entry (v.place_of d i).0 (v.place_of d i).1) → ((k : ℕ) → k ≤ v.pages → P (bad_chain (v.place_of d i).0 (v.place_of d i).1 k))
        → length m ≡ v.pages → unowned m ≤ u → Comes P v.pages m (judge_entry f v d i ear e m) (judge_entry g v d i ear e m)
    unfolding judge_entry
    comes_entry d i ear vacant m bad broken each few = comes (each, le_refl _)
    comes_entry d i ear (a_file locked name date start size) m bad broken each few =
        let place = v.place_of d i in
        comes_if (fresh_name v ear name) (bad_entry place.0 place.1)
        (comes_chain place.0 place.1 (v.numbers.pages_for size) 0 start m broken each (omega (arith, unowned_most m))) bad
    comes_entry d i ear (a_directory name date start size) m bad broken each few =
        let place = v.place_of d i in
        let ps : List ℕ = v.directory_pages start in
        let some = mem_length start ps (paged.headed start) in
        comes_if (fresh_name v ear name && eqb size v.geometry.size) (bad_entry place.0 place.1)
        (comes_pages place.0 place.1 0 ps (f start) (g start) m (λ k l w. broken k w) each (omega (arith, unowned_most m)) (λ l long fewer inside.
        below start l inside long (omega arith))) bad

    comes_entries : (d i : ℕ) (ear ats m : List ℕ) → Inside v d → i + length ats ≤ length (v.entries d) → length m ≡ v.pages → unowned m ≤ u
        → Comes P v.pages m (judge_entries f v d i ear ats m) (judge_entries g v d i ear ats m)
    unfolding judge_entries
    comes_entries d i ear [] m inside most each few = comes (each, le_refl _)
    comes_entries d i ear (at ∷ ats) m inside most each few =
        comes_then (judge_entry f v d i ear (v.entry_at at) m) (judge_entry g v d i ear (v.entry_at at) m)
        (judge_entries f v d (suc i) (at ∷ ear) ats) (judge_entries g v d (suc i) (at ∷ ear) ats)
        (comes_entry d i ear (v.entry_at at) m (tellable.entry d i inside (omega arith)) (λ k w. tellable.chain d i k inside (omega arith) w) each few)
        (λ l e long less. comes_entries d (suc i) (at ∷ ear) ats l inside (omega arith) long (le_trans less few))

  -- the principle: at any two depths above the number of pages without an owner
  pub comes_directory : (f g p : ℕ) (m : List ℕ) → Inside v p → length m ≡ v.pages → unowned m < f → unowned m < g
      → Comes P v.pages m (judge_directory f v p m) (judge_directory g v p m)
  unfolding judge_directory
  comes_directory zero g p m inside each uf ug = absurd (omega arith)
  comes_directory (suc f) zero p m inside each uf ug = absurd (omega arith)
  comes_directory (suc f) (suc g) p m inside each uf ug =
      comes_entries (judge_directory f v) (judge_directory g v) (unowned m)
      (λ q l ins long less. comes_directory f g q l ins long (omega arith) (omega arith))
      p 0 [] (v.entries p) m inside (omega arith) each (le_refl _)

  -- the root's pages after the header are followed by the header
  root_inside : 1 ≤ v.pages → ((q : ℕ) → Mem q (tail (v.directory_pages 0)) → q < v.pages) → Inside v 0
  root_inside low h q m =
      let r = paged.rooted in
      elim (mem_cons q 0 r.0 (subst (λ (l : List ℕ). Mem q l) r.1 m)) [
        | inl e ↦ omega (arith, e)
        | inr k ↦ h q (subst (λ (l : List ℕ). Mem q (tail l)) (sym r.1) k)
      ]

  -- the walk of any depth from N on is the one of depth N
  pub comes_root : (depth : ℕ) → 1 ≤ v.pages → v.pages ≤ depth
      → Comes P v.pages (replicate v.pages 0)
      (judge_pages v 0 255 0 (tail (v.directory_pages 0)) (judge_directory depth v 0) (replicate v.pages 0)) (judge_root v)
  comes_root depth low deep =
      let few = unowned_few v.pages low in
      comes_pages 0 255 0 (tail (v.directory_pages 0)) (judge_directory depth v 0) (judge_directory v.pages v 0) (replicate v.pages 0)
      (λ k l w. tellable.root k (omega arith) w) (length-replicate {A = ℕ} v.pages 0) (omega arith)
      (λ l long fewer inside. comes_directory depth v.pages 0 l (root_inside low inside) long (omega arith) (omega arith))

  -- ---- after it

  -- a fault that is told has the property, if a lost page and a bad count have it too
  module _ (lost : (p : ℕ) → p < v.pages → P (lost_page p)) (count : P bad_count) where
    kept_rest : (m : List ℕ) → length m ≡ v.pages → Kept P v.pages m (judge_rest v m)
    unfolding judge_rest lost_or
    kept_rest m each = go (first is_lost (count_from a (v.pages - a))) refl
      where
        a : ℕ
        a = v.geometry.aside

        is_lost : ℕ → Bool
        is_lost p = eqb (get_or m p 0) 0 && eqb (page_bit v p) 1

        counted : Bool
        counted = marked_below v a && eqb (free_count v) (zero_bits v v.pages)

        go : (o : Option ℕ) → first is_lost (count_from a (v.pages - a)) ≡ o → Kept P v.pages m (lost_or (if counted then clean m else fault bad_count) o)
        go none e =
            let h : Comes P v.pages m (clean m) (clean m) = comes (each, le_refl _) in
            (comes_if counted bad_count h count).kept
        go (some p) e = let h = count_from_occ a (v.pages - a) p (first_found is_lost _ p e).0 in lost p (omega (arith, h.0, h.1))

    pub fault_told : 1 ≤ v.pages → (f : Fault) → judge_view v ≡ fault f → P f
    unfolding judge_view
    fault_told low f e =
        go (judge_view v) e (comes_then (judge_root v) (judge_root v) (judge_rest v) (judge_rest v)
        (comes_root v.pages low (le_refl _)) (λ m k long less. comes (kept_rest m long))).kept
      where
        go : (j : Judged) → j ≡ fault f → Kept P v.pages (replicate v.pages 0) j → P f
        go j k h = rw k at h

-- ---- any fault

abbrev pub Any : Fault → Type 0
Any f = Unit {0}

pub any_tellable : (v : View) → Tellable v Any
any_tellable v = record { entry = λ d i h l. tt; chain = λ d i k h l w. tt; root = λ k l w. tt; twice = λ p l. tt; free = λ p l. tt }

-- A directory gets its owner before it is judged, so the walk goes no deeper than there are pages: any greater depth tells the same.
pub judge_depth : {v : View} → Paged v → (depth : ℕ) → 1 ≤ v.pages → v.pages ≤ depth
    → then_judge (judge_pages v 0 255 0 (tail (v.directory_pages 0)) (judge_directory depth v 0) (replicate v.pages 0)) (judge_rest v) ≡ judge_view v
unfolding judge_view
judge_depth {v} paged depth low deep = ap (λ (j : Judged). then_judge j (judge_rest v)) (comes_root paged (any_tellable v) depth low deep).same
