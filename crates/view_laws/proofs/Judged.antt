-- The judge's walk gives an owner to one page after the other, the root's own first and then those of `owned`, so it ends clean exactly if all that
-- it passes is good and each of those pages can have its owner, and then the pages marked are the owned ones.
use mathlib.Core.Path.{◌≡◌, refl, sym, ap, ◌∙◌, subst}
use mathlib.Core.Logic.{◌≢◌, inl, inr}
use Prim.Native.Nat.{ℕ, zero, suc, ◌+◌, ◌-◌, ◌≤◌, ◌<◌}
use native.Mathlib.Omega.{arith}
use mathlib.Core.Bool.{Bool, true, false, not, ◌&&◌}
use mathlib.Core.Option.{Option, none, some}
use mathlib.Core.List.{List, [], ◌∷◌, ◌++◌, flat_map, reverse, reverse_aux, append-nil, tail}
use lib.ListN.{length, get_or, set, replicate, length-set, length-replicate, get_or-replicate}
use lib.Seq.{get_or-set_same, get_or-set_other}
use lib.Dec.{T, eqb, leb, ltb, eqb→eq, leb→le, le→leb, ltb→lt, lt→ltb, T_not}
use Rattle.volume.specs.Bytes.{Bytes}
use Rattle.std.specs.Prelude.{if◌then◌else◌}
use Rattle.volume.specs.Lists.{all, count_from, conditions, first}
use Rattle.volume.specs.Chain.{chain, beyond}
use Rattle.volume.specs.Geometry.{Geometry}
use Rattle.volume.proofs.Occ.{occ, Mem, Nodup, not_mem, hit_refl, hit_cases, occ_append, mem_head, mem_tail, mem_cons, mem_or_not}
use Rattle.volume.proofs.Tests.{and_both, both_and, occ_all, occ_count_from, count_from_occ, first_found, first_none, eq-eqb}
use Rattle.volume.proofs.Marks.{bit_low}
use Rattle.model.specs.Name.{legal_name}
use Rattle.model.specs.Entry.{Entry, vacant, a_file, a_directory}
use Rattle.model.specs.View.{View, next, page_bit, zero_bits, free_count}
use Rattle.model.specs.Sound.{pages_of, good_entry, same_name, names_apart, in_directory, good_directory, owned, all_owned, in_range, marked_below, sound_facts}
use Rattle.model.specs.Numbers.{Numbers}
use Rattle.model.specs.Judge.{Fault, bad_entry, bad_chain, owned_twice, marked_free, bad_count, Judged, fault, clean, is_clean}
use Rattle.model.specs.Judge.{then_judge, judge_page, judge_chain, judge_pages, fresh_name, judge_entry, judge_entries, judge_directory, judge_root, lost_or, judge_rest, judge_view}
use Rattle.view_laws.proofs.Owns.{own, owned_entries}
use Rattle.view_laws.proofs.Facts.{Facts, Rooted, marked_below_lem, below_marked, to_facts, from_facts}
use Rattle.view_laws.proofs.Focus.{Regular}
use Rattle.view_laws.proofs.Level.{good_split, good_join, apart_split, apart_join}
use Rattle.view_laws.proofs.Shelf.{seen}
use Rattle.view_laws.proofs.Chained.{chained, Slotted, chained_shelved}
use Rattle.view_laws.proofs.Ends.{Ending, chains_end}

bool_ext : (c d : Bool) → (T c → T d) → (T d → T c) → c ≡ d
bool_ext true true f g = refl
bool_ext true false f g = absurd (f tt)
bool_ext false true f g = absurd (g tt)
bool_ext false false f g = refl

swap_and : (x y z : Bool) → T (x && y) × T z → T (x && z) × T y
swap_and true y z h = (h.1, h.0)
swap_and false y z h = absurd h.0

occ_reverse : (q : ℕ) (xs ys : List ℕ) → occ q (reverse_aux xs ys) ≡ occ q xs + occ q ys
occ_reverse q [] ys = omega arith
occ_reverse q (x ∷ xs) ys = omega (arith, occ_reverse q xs (x ∷ ys))

tail_mem : (ps : List ℕ) (q : ℕ) → Mem q (tail ps) → Mem q ps
tail_mem [] q m = m
tail_mem (p ∷ ps) q m = mem_tail q p ps m

then_same : (j : Judged) (f h : List ℕ → Judged) → ((m : List ℕ) → f m ≡ h m) → then_judge j f ≡ then_judge j h
unfolding then_judge
then_same (fault x) f h e = refl
then_same (clean m) f h e = e m

then_then : (j : Judged) (f on : List ℕ → Judged) → then_judge (then_judge j f) on ≡ then_judge j (λ m. then_judge (f m) on)
unfolding then_judge
then_then (fault x) f on = refl
then_then (clean m) f on = refl

-- ---- what a part of the walk tells

module _ (v : View) where
  -- each of the pages ps can have its owner after those marked
  abbrev pub Ownable : List ℕ → List ℕ → Type 0
  Ownable ps marks = (q : ℕ) → Mem q ps → (v.geometry.aside ≤ q) × (q < v.pages) × (page_bit v q ≡ 1) × (occ q ps + get_or marks q 0 ≤ 1)

  -- the marks with those of the pages ps added
  record Adds (ps marks s : List ℕ) : Type 0 where
    long : length s ≡ length marks
    each : (q : ℕ) → q < v.pages → get_or s q 0 ≡ occ q ps + get_or marks q 0

  -- what the outcome of a part of the walk tells, a part that owns the pages ps if all is good
  data Tells (good : Type 0) (ps seen : List ℕ) : Judged → Type 0 where
    refuted : {f : Fault} → (good → Ownable ps seen → ⊥) → Tells good ps seen (fault f)
    proved : (s : List ℕ) → good → Ownable ps seen → Adds ps seen s → Tells good ps seen (clean s)

  -- what is good may lean on the pages being ownable
  tells_own : {good better : Type 0} {ps seen : List ℕ} {j : Judged} → (good → Ownable ps seen → better) → (better → good) → Tells good ps seen j → Tells better ps seen j
  tells_own to from (refuted n) = refuted (λ g. n (from g))
  tells_own to from (proved s g o c) = proved s (to g o) o c

  tells_iff : {good better : Type 0} {ps seen : List ℕ} {j : Judged} → (good → better) → (better → good) → Tells good ps seen j → Tells better ps seen j
  tells_iff to from t = tells_own (λ g o. to g) from t

  tells_if : {good : Type 0} {ps seen : List ℕ} {j : Judged} (c : Bool) (f : Fault) → Tells good ps seen j → Tells (T c × good) ps seen (if c then j else fault f)
  tells_if true f t = tells_iff (λ g. (tt, g)) (λ g. g.1) t
  tells_if false f t = refuted (λ g o. g.0)

  tells_then : {good more : Type 0} {ps qs seen : List ℕ} {j : Judged} {on : List ℕ → Judged}
      → Tells good ps seen j → ((s : List ℕ) → good → Ownable ps seen → Adds ps seen s → Tells more qs s (on s)) → Tells (good × more) (ps ++ qs) seen (then_judge j on)
  unfolding then_judge
  tells_then {ps = ps} {qs = qs} (refuted n) u = refuted (λ g o. n g.0 (λ q m.
      let r = o q (omega (arith, occ_append q ps qs)) in omega (arith, occ_append q ps qs)))
  tells_then {good} {more} {ps} {qs} {seen} (proved s g o c) u = go (u s g o c)
    where
      go : {j : Judged} → Tells more qs s j → Tells (good × more) (ps ++ qs) seen j
      go (refuted n) = refuted (λ g o. n g.1 (λ q m. let r = o q (omega (arith, occ_append q ps qs)) in omega (arith, occ_append q ps qs, c.each q r.1)))
      go (proved s' g' o' c') = proved s' (g, g')
          (λ q m. elim (mem_or_not q qs) [
            | inl k ↦ let r = o' q k in omega (arith, occ_append q ps qs, c.each q r.1)
            | inr z ↦ let r = o q (omega (arith, occ_append q ps qs)) in omega (arith, occ_append q ps qs)
          ])
          (record { long = c'.long ∙ c.long; each = λ q l. omega (arith, occ_append q ps qs, c.each q l, c'.each q l) })

  -- ---- pages

  none_told : (seen : List ℕ) → Tells (Unit {0}) [] seen (clean seen)
  none_told seen = proved seen tt (λ q m. absurd (omega arith)) (record { long = refl; each = λ q l. omega arith })

  test_told : (c : Bool) (f : Fault) (seen : List ℕ) → Tells (T c) [] seen (if c then clean seen else fault f)
  test_told c f seen = tells_iff (λ g. g.0) (λ g. (g, tt)) (tells_if c f (none_told seen))

  page_told : (range : Fault) (p : ℕ) (seen : List ℕ) → length seen ≡ v.pages → Tells (Unit {0}) (p ∷ []) seen (judge_page v range p seen)
  unfolding judge_page
  page_told range p seen long = go (in_range v p) (eqb (get_or seen p 0) 0) (eqb (page_bit v p) 1)
      (λ i. let r = and_both (leb v.geometry.aside p) (ltb p v.pages) i in (leb→le v.geometry.aside p r.0, ltb→lt p v.pages r.1))
      (eqb→eq (get_or seen p 0) 0) (eqb→eq (page_bit v p) 1)
      (λ o. let r = o p (mem_head p []) in
      let unseen : get_or seen p 0 ≡ 0 = omega (arith, r.3, hit_refl p) in
      (both_and (leb v.geometry.aside p) (ltb p v.pages) (le→leb v.geometry.aside p r.0) (lt→ltb p v.pages r.1), eq-eqb unseen, eq-eqb r.2))
    where
      go : (r m k : Bool) → (T r → (v.geometry.aside ≤ p) × (p < v.pages)) → (T m → get_or seen p 0 ≡ 0) → (T k → page_bit v p ≡ 1) → (Ownable (p ∷ []) seen → T r × T m × T k)
          → Tells (Unit {0}) (p ∷ []) seen (if r then (if m then (if k then clean (set seen p 1) else fault (marked_free p)) else fault (owned_twice p)) else fault range)
      go true true true i u k from =
          let z = u tt in
          proved (set seen p 1) tt
          (λ q m. elim (mem_cons q p [] m) [ inl e ↦ rw e ((i tt).0, (i tt).1, k tt, omega (arith, hit_refl p)) | inr n ↦ absurd (omega arith) ])
          (record {
            long = length-set seen p 1;
            each = λ q l. elim (hit_cases q p) [
              | inl e ↦ ap (λ (x : ℕ). get_or (set seen p 1) x 0) e.0 ∙ get_or-set_same seen p 1 0 (omega (arith, (i tt).1)) ∙ omega (arith, e.1, ap (λ (x : ℕ). get_or seen x 0) e.0)
              | inr ne ↦ get_or-set_other seen p q 1 0 ne.0 ∙ omega (arith, ne.1)
            ];
          })
      go true true false i u k from = refuted (λ g o. (from o).2)
      go true false k i u w from = refuted (λ g o. (from o).1)
      go false m k i u w from = refuted (λ g o. (from o).0)

  chain_told : (d i k passed p : ℕ) (seen : List ℕ) → length seen ≡ v.pages → Tells (T (eqb (beyond (next v) k p) 0)) (chain (next v) k p) seen (judge_chain v d i k passed p seen)
  unfolding judge_chain chain beyond
  chain_told d i zero passed p seen long = test_told (eqb p 0) (bad_chain d i passed) seen
  chain_told d i (suc k) passed p seen long =
      tells_iff (λ g. g.1) (λ g. (tt, g)) (tells_then (page_told (bad_chain d i passed) p seen long) (λ s g o c. chain_told d i k (suc passed) (next v p) s (c.long ∙ long)))

  -- ---- the pages of a directory, and what follows them

  pages_told : (d i passed : ℕ) (ps seen : List ℕ) → length seen ≡ v.pages → Tells (Unit {0}) ps seen (judge_pages v d i passed ps clean seen)
  pages_told d i passed [] seen long = none_told seen
  pages_told d i passed (p ∷ ps) seen long =
      tells_iff (λ g. tt) (λ g. (tt, tt))
      (tells_then (page_told (bad_chain d i passed) p seen long) (λ s g o c. pages_told d i (suc passed) ps s (c.long ∙ long)))

  pages_then : (d i passed : ℕ) (ps : List ℕ) (on : List ℕ → Judged) (seen : List ℕ)
      → judge_pages v d i passed ps on seen ≡ then_judge (judge_pages v d i passed ps clean seen) on
  unfolding then_judge
  pages_then d i passed [] on seen = refl
  pages_then d i passed (p ∷ ps) on seen =
      let j : Judged = judge_page v (bad_chain d i passed) p seen in
      then_same j (judge_pages v d i (suc passed) ps on) (λ m. then_judge (judge_pages v d i (suc passed) ps clean m) on) (pages_then d i (suc passed) ps on)
      ∙ sym (then_then j (judge_pages v d i (suc passed) ps clean) on)

  followed : {more : Type 0} {qs : List ℕ} (d i : ℕ) (ps : List ℕ) (on : List ℕ → Judged) (seen : List ℕ) → length seen ≡ v.pages
      → ((s : List ℕ) → Ownable ps seen → length s ≡ v.pages → Tells more qs s (on s)) → Tells more (ps ++ qs) seen (judge_pages v d i 0 ps on seen)
  followed {more} {qs} d i ps on seen long u =
      subst (λ (j : Judged). Tells more (ps ++ qs) seen j) (sym (pages_then d i 0 ps on seen))
      (tells_iff (λ g. g.1) (λ g. (tt, g)) (tells_then (pages_told d i 0 ps seen long) (λ s g o c. u s o (c.long ∙ long))))

  -- pages that can have their owners differ
  ownable_once : (ps more seen : List ℕ) → Ownable (ps ++ more) seen → Nodup ps
  ownable_once ps more seen o q = elim (mem_or_not q ps) [
    | inl m ↦ omega (arith, (o q (omega (arith, m, occ_append q ps more))).3, occ_append q ps more)
    | inr z ↦ omega (arith, z)
  ]

  -- and lie behind those set aside
  ownable_inside : (ps more seen : List ℕ) → Ownable (ps ++ more) seen → (q : ℕ) → Mem q ps → (v.geometry.aside ≤ q) × (q < v.pages)
  ownable_inside ps more seen o q m = let w = o q (omega (arith, m, occ_append q ps more)) in (w.0, w.1)

-- what a version owes of each view
pub record Judging (v : View) : Type 0 where
  pub regular : Regular v
  pub ending : Ending v
  pub rooted : Rooted v
  pub low : 1 ≤ v.geometry.aside

-- what a clean walk says, and what makes it clean: all that it passes is good, and each owned page lies in the image, is marked and owned once
pub record Walkable (v : View) : Type 0 where
  pub formed : T (good_directory v.pages v 0)
  pub inside : (q : ℕ) → Mem q (all_owned v.pages v) → (v.geometry.aside ≤ q) × (q < v.pages)
  pub marked : (q : ℕ) → Mem q (all_owned v.pages v) → page_bit v q ≡ 1
  pub once : (q : ℕ) → occ q (all_owned v.pages v) ≤ 1

module _ {v : View} (owed : Judging v) where
  -- ---- entries

  -- the entry e and what is below it are good
  abbrev GoodEntry : ℕ → Entry → Type 0
  GoodEntry d e = T (good_entry v e) × T (in_directory true (good_directory d v) e)

  -- none of the earlier entries has the name of e
  abbrev fresh : List ℕ → Entry → Bool
  fresh earlier e = all (λ at. not (same_name e (v.entry_at at))) earlier

  -- entries are apart if their pages are
  abbrev Below : ℕ → Type 0
  Below d = (p : ℕ) → Nodup (v.directory_pages p) → (seen : List ℕ) → length seen ≡ v.pages
      → Tells v (T (good_directory d v p)) (owned d v p) seen (judge_directory d v p seen)

  entry_told : (d : ℕ) → Below d → (p i : ℕ) (earlier : List ℕ) (e : Entry) (seen : List ℕ) → length seen ≡ v.pages
      → Tells v (GoodEntry d e × T (fresh earlier e)) (own d v e) seen (judge_entry (judge_directory d v) v p i earlier e seen)
  unfolding judge_entry own pages_of good_entry same_name fresh_name
  entry_told d ih p i earlier vacant seen long = tells_iff v (λ g. ((tt, tt), occ_all (λ at. true) earlier (λ at m. tt))) (λ g. tt) (none_told v seen)
  entry_told d ih p i earlier (a_file locked name date start size) seen long =
      let new = fresh earlier (a_file locked name date start size) in
      let place = v.place_of p i in
      let ends = eqb (beyond (next v) (v.numbers.pages_for size) start) 0 in
      tells_iff v (λ g. let r = swap_and (legal_name name) new ends g in ((r.0, tt), r.1)) (λ g. swap_and (legal_name name) ends new (g.0.0, g.1))
      (tells_if v (fresh_name v earlier name) (bad_entry place.0 place.1) (chain_told v place.0 place.1 (v.numbers.pages_for size) 0 start seen long))
  entry_told d ih p i earlier (a_directory name date start size) seen long =
      let new = fresh earlier (a_directory name date start size) in
      let place = v.place_of p i in
      let sized = eqb size v.geometry.size in
      let ps : List ℕ = v.directory_pages start in
      tells_own v
      (λ g o.
      let r = swap_and (legal_name name) new sized (and_both (fresh_name v earlier name) sized g.0) in
      let ended = owed.ending start (ownable_once v ps (owned d v start) seen o)
      (λ q m. ownable_inside v ps (owned d v start) seen o q (tail_mem ps q m)) in
      ((both_and (v.directory_ends start) (legal_name name && sized) ended r.0, g.1), r.1))
      (λ g.
      let r = swap_and (legal_name name) sized new ((and_both (v.directory_ends start) (legal_name name && sized) g.0.0).1, g.1) in
      (both_and (fresh_name v earlier name) sized r.0 r.1, g.0.1))
      (tells_if v (fresh_name v earlier name && sized) (bad_entry place.0 place.1)
      (followed v place.0 place.1 ps (judge_directory d v start) seen long
      (λ s o l. ih start (ownable_once v ps [] seen (subst (λ (qs : List ℕ). Ownable v qs seen) (sym (append-nil ps)) o)) s l)))

  -- Each name is tested against the earlier ones, and so the names are apart in the order from last to first.
  apart_earlier : (ats earlier : List ℕ) → T (names_apart v (reverse_aux ats earlier)) → T (names_apart v earlier)
  unfolding names_apart
  apart_earlier [] earlier h = h
  apart_earlier (at ∷ ats) earlier h = (and_both (fresh earlier (v.entry_at at)) (names_apart v earlier) (apart_earlier ats (at ∷ earlier) h)).1

  entries_told : (d : ℕ) → Below d → (p i : ℕ) (earlier ats seen : List ℕ) → length seen ≡ v.pages → T (names_apart v earlier)
      → Tells v (((at : ℕ) → Mem at ats → GoodEntry d (v.entry_at at)) × T (names_apart v (reverse_aux ats earlier)))
      (flat_map (λ at. own d v (v.entry_at at)) ats) seen (judge_entries (judge_directory d v) v p i earlier ats seen)
  unfolding judge_entries flat_map names_apart
  entries_told d ih p i earlier [] seen long a = tells_iff v (λ (g : Unit {0}). (λ at m. absurd (omega arith), a)) (λ g. tt) (none_told v seen)
  entries_told d ih p i earlier (at ∷ ats) seen long a =
      tells_iff v
      (λ g. (λ x m. elim (mem_cons x at ats m) [ inl e ↦ rw e g.0.0 | inr k ↦ g.1.0 x k ], g.1.1))
      (λ g. (
        (g.0 at (mem_head at ats), (and_both (fresh earlier (v.entry_at at)) (names_apart v earlier) (apart_earlier ats (at ∷ earlier) g.1)).0),
        (λ x m. g.0 x (mem_tail x at ats m), g.1),
      ))
      (tells_then v (entry_told d ih p i earlier (v.entry_at at) seen long)
      (λ s g o c. entries_told d ih p (suc i) (at ∷ earlier) ats s (c.long ∙ long) (both_and (fresh earlier (v.entry_at at)) (names_apart v earlier) g.1 a)))

  directory_told : (d : ℕ) → Below d
  unfolding judge_directory good_directory names_apart
  directory_told zero p apart seen long = refuted (λ g o. g)
  directory_told (suc d) p apart seen long =
      let ats : List ℕ = v.entries p in
      let once = owed.regular.apart p apart in
      subst (λ (ps : List ℕ). Tells v (T (good_directory (suc d) v p)) ps seen (judge_directory (suc d) v p seen)) (sym (owned_entries d v p)) (tells_iff v
      (λ g. good_join d v p once record {
        each = λ x m. (g.0 x m).0;
        below = λ x m. (g.0 x m).1;
        apart = λ x y m k. apart_split v (reverse ats) g.1 x y (omega (arith, occ_reverse x ats [])) (omega (arith, occ_reverse y ats []));
      })
      (λ h. let r = good_split d v p h in (
        λ x m. (r.each x m, r.below x m),
        apart_join v (reverse ats) (λ q. omega (arith, occ_reverse q ats [], once q))
            (λ x y m k. r.apart x y (omega (arith, occ_reverse x ats [])) (omega (arith, occ_reverse y ats []))),
      ))
      (entries_told d (directory_told d) p 0 [] ats seen long tt))

  -- ---- the walk

  -- no page has a mark at the start
  abbrev unmarked : List ℕ
  unmarked = replicate v.pages 0

  abbrev rest : List ℕ
  rest = tail (v.directory_pages 0)

  -- the header is none of the pages that can have an owner
  root_apart : (more seen : List ℕ) → Ownable v (rest ++ more) seen → Nodup (v.directory_pages 0)
  root_apart more seen o q =
      let x : occ q (v.directory_pages 0) ≡ occ q (0 ∷ owed.rooted.0) = ap (occ q) owed.rooted.1 in
      let y : occ q rest ≡ occ q owed.rooted.0 = ap (λ (l : List ℕ). occ q (tail l)) owed.rooted.1 in
      elim (hit_cases q 0) [
        | inl e ↦
            let z : occ q rest ≡ 0 = not_mem q rest (λ m. omega (arith, e.0, (ownable_inside v rest more seen o q m).0, owed.low)) in
            omega (arith, x, y, z, e.1)
        | inr e ↦ omega (arith, x, y, ownable_once v rest more seen o q, e.1)
      ]

  walk_told : Tells v (T (good_directory v.pages v 0)) (all_owned v.pages v) unmarked (judge_root v)
  walk_told =
      followed v 0 255 rest (judge_directory v.pages v 0) unmarked (length-replicate {A = ℕ} v.pages 0)
      (λ s o l. directory_told v.pages 0 (root_apart [] unmarked (subst (λ (qs : List ℕ). Ownable v qs unmarked) (sym (append-nil rest)) o)) s l)

  told_walkable : {s : List ℕ} → Tells v (T (good_directory v.pages v 0)) (all_owned v.pages v) unmarked (clean s)
      → Walkable v × ((q : ℕ) → q < v.pages → get_or s q 0 ≡ occ q (all_owned v.pages v))
  told_walkable (proved s g o c) = (
    record {
      formed = g;
      inside = λ q m. ((o q m).0, (o q m).1);
      marked = λ q m. (o q m).2;
      once = λ q. elim (mem_or_not q (all_owned v.pages v)) [ inl m ↦ omega (arith, (o q m).3) | inr z ↦ omega arith ];
    },
    λ q l. omega (arith, c.each q l, get_or-replicate {A = ℕ} v.pages q 0 0 l),
  )

  told_clean : {j : Judged} → Tells v (T (good_directory v.pages v 0)) (all_owned v.pages v) unmarked j → Walkable v → T (is_clean j)
  unfolding is_clean
  told_clean (refuted n) w = n w.formed (λ q m.
      let i = w.inside q m in
      (i.0, i.1, w.marked q m, omega (arith, w.once q, get_or-replicate {A = ℕ} v.pages q 0 0 i.1)))
  told_clean (proved s g o c) w = tt

  -- a walk that ends clean has given its owner mark to each owned page, and to no other
  pub walk_clean : {marks : List ℕ} → judge_root v ≡ clean marks → Walkable v × ((q : ℕ) → q < v.pages → get_or marks q 0 ≡ occ q (all_owned v.pages v))
  walk_clean e = told_walkable (subst (Tells v (T (good_directory v.pages v 0)) (all_owned v.pages v) unmarked) e walk_told)

  pub walkable_clean : Walkable v → T (is_clean (judge_root v))
  walkable_clean w = told_clean walk_told w

  -- ---- the image

  abbrev counted : Bool
  counted = marked_below v v.geometry.aside && eqb (free_count v) (zero_bits v v.pages)

  -- no page is marked that nobody owns
  abbrev NoneLost : Type 0
  NoneLost = (q : ℕ) → v.geometry.aside ≤ q → q < v.pages → page_bit v q ≡ 1 → Mem q (all_owned v.pages v)

  rest_told : {s : List ℕ} → Adds v (all_owned v.pages v) unmarked s → Tells v (T counted × NoneLost) [] s (judge_rest v s)
  unfolding judge_rest lost_or
  rest_told {s} c = go (test_told v counted bad_count s) (first lost pages) refl
    where
      a : ℕ
      a = v.geometry.aside

      pages : List ℕ
      pages = count_from a (v.pages - a)

      lost : ℕ → Bool
      lost q = eqb (get_or s q 0) 0 && eqb (page_bit v q) 1

      marks : (q : ℕ) → q < v.pages → get_or s q 0 ≡ occ q (all_owned v.pages v)
      marks q l = omega (arith, c.each q l, get_or-replicate {A = ℕ} v.pages q 0 0 l)

      go : {good : Type 0} {j : Judged} → Tells v good [] s j → (l : Option ℕ) → first lost pages ≡ l → Tells v (good × NoneLost) [] s (lost_or j l)
      go t none e = tells_iff v
          (λ g. (
            g,
            λ q l u k. elim (mem_or_not q (all_owned v.pages v)) [
              | inl m ↦ m
              | inr z ↦
                  let w : get_or s q 0 ≡ 0 = marks q u ∙ z in
                  absurd (T_not (lost q) (first_none lost pages e q (occ_count_from a (v.pages - a) q l (omega arith))) (both_and (eqb (get_or s q 0) 0) (eqb (page_bit v q) 1) (eq-eqb w) (eq-eqb k)))
            ],
          ))
          (λ g. g.0) t
      go t (some q) e = refuted (λ g o.
          let r = first_found lost pages q e in
          let i = count_from_occ a (v.pages - a) q r.0 in
          let l : q < v.pages = omega (arith, i.0, i.1) in
          let w = and_both (eqb (get_or s q 0) 0) (eqb (page_bit v q) 1) r.1 in
          omega (arith, eqb→eq (get_or s q 0) 0 w.0, marks q l, g.1 q i.0 l (eqb→eq (page_bit v q) 1 w.1)))

  -- what is right of a sound image besides its length, its header and the pages themselves
  abbrev Right : Type 0
  Right = T (good_directory v.pages v 0) × (T counted × NoneLost)

  judge_told : Tells v Right (all_owned v.pages v) unmarked (judge_view v)
  unfolding judge_view
  judge_told =
      subst (λ (ps : List ℕ). Tells v Right ps unmarked (judge_view v)) (append-nil (all_owned v.pages v))
      (tells_then v walk_told (λ s g o c. rest_told c))

  right_facts : Right → Ownable v (all_owned v.pages v) unmarked → Facts v
  right_facts g o =
      let more : List ℕ = owned v.pages v 0 in
      let r = and_both (marked_below v v.geometry.aside) (eqb (free_count v) (zero_bits v v.pages)) g.1.0 in
      record {
        aside = marked_below_lem v v.geometry.aside r.0;
        counted = eqb→eq (free_count v) (zero_bits v v.pages) r.1;
        ended = owed.ending 0 (root_apart more unmarked o) (ownable_inside v rest more unmarked o);
        formed = g.0;
        inside = λ q m. ((o q m).0, (o q m).1);
        exact = λ q l u. elim (mem_or_not q (all_owned v.pages v)) [
          | inl m ↦ let r = o q m in omega (arith, m, r.2, r.3)
          | inr z ↦ let n : page_bit v q ≢ 1 = λ e. omega (arith, g.1.1 q l u e, z) in omega (arith, n, z, bit_low v.geometry v.bytes q)
        ];
      }

  facts_right : Facts v → Right × Ownable v (all_owned v.pages v) unmarked
  facts_right f = (
    (
      f.formed,
      (
        both_and (marked_below v v.geometry.aside) (eqb (free_count v) (zero_bits v v.pages)) (below_marked v v.geometry.aside f.aside) (eq-eqb f.counted),
        λ q l u k. omega (arith, f.exact q l u, k),
      ),
    ),
    λ q m. let i = f.inside q m in (
      i.0,
      i.1,
      omega (arith, m, f.exact q i.0 i.1, bit_low v.geometry v.bytes q),
      omega (arith, f.exact q i.0 i.1, bit_low v.geometry v.bytes q, get_or-replicate {A = ℕ} v.pages q 0 0 i.1),
    ),
  )

  told_sound : {j : Judged} → Tells v Right (all_owned v.pages v) unmarked j → is_clean j ≡ conditions (sound_facts v.pages v)
  unfolding is_clean
  told_sound (refuted n) = bool_ext false (conditions (sound_facts v.pages v)) (λ h. absurd h) (λ h. let r = facts_right (to_facts h) in n r.0 r.1)
  told_sound (proved s g o c) = bool_ext true (conditions (sound_facts v.pages v)) (λ h. from_facts (right_facts g o)) (λ h. tt)

  told_marks : {s : List ℕ} → Tells v Right (all_owned v.pages v) unmarked (clean s) → (q : ℕ) → q < v.pages → get_or s q 0 ≡ occ q (all_owned v.pages v)
  told_marks (proved s g o c) q l = omega (arith, c.each q l, get_or-replicate {A = ℕ} v.pages q 0 0 l)

  -- an image of right length and header is judged clean exactly if it is sound
  pub judge_sound : is_clean (judge_view v) ≡ conditions (sound_facts v.pages v)
  judge_sound = told_sound judge_told

  -- the pages marked are the owned ones
  pub judge_marks : (marks : List ℕ) → judge_view v ≡ clean marks → (q : ℕ) → q < v.pages → get_or marks q 0 ≡ occ q (all_owned v.pages v)
  judge_marks marks e = told_marks (subst (Tells v Right (all_owned v.pages v) unmarked) e judge_told)

-- directories that are chains, and grow
pub chained_judging : {g : Geometry} {home : ℕ → ℕ} {N : ℕ} {numbers : Numbers} {on : ℕ → List ℕ} {read : Bytes → ℕ → Entry} {placed : Bytes → (directory entry : ℕ) → ℕ × ℕ}
    → Slotted g home N numbers on read placed → 2 ≤ g.aside → (b : Bytes) → Judging (seen (chained g home N numbers on read placed) b)
chained_judging {g} {home} {N} {numbers} {on} {read} {placed} slots two b =
    let s = chained_shelved g home N numbers on read placed slots in
    record { regular = s.regular b; ending = chains_end g home N numbers on read placed two slots.high b; rooted = s.rooted b; low = omega arith }
