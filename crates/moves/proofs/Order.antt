-- A proposal is an order of the pages, numbered from 0 on. It is accepted if each page stands in the order once, page 0 first, and the pages
-- of each file one after the other.
use mathlib.Core.Path.{◌≡◌, refl, sym, ap, ◌∙◌, subst}
use mathlib.Core.Logic.{inl, inr}
use Prim.Native.Nat.{ℕ, zero, suc, ◌+◌, ◌-◌, ◌≤◌, ◌<◌}
use native.Mathlib.Omega.{arith}
use native.Mathlib.Decide.{dec_lt}
use mathlib.Core.List.{List, [], ◌∷◌, ◌++◌, map}
use lib.ListN.{length, get_or, set, length-set, length-append}
use lib.Seq.{get_or-set_same, get_or-set_other, get_or-append-add, ext_get_or}
use lib.Dec.{T}
use Rattle.volume.specs.Bytes.{Bytes, same}
use Rattle.volume.specs.Lists.{member, count_from, up_to}
use Rattle.volume.specs.Geometry as On
use Rattle.volume.proofs.Occ.{hit_cases, occ, Mem, Nodup, Under, sum, sum_one, sum_occ, under_mem, under_head, under_tail, nodup_head, nodup_tail}
use Rattle.volume.proofs.Tests.{no_conditions, cons_conditions, occ_member, occ_distinct, occ_all, count_from_occ, eq-eqb, same_refl}
use Rattle.model.specs.Layout.{page_count}
use Rattle.model.specs.Version1.{view}
use Rattle.model.specs.Sound.{pages_at, reached_entries}
use Rattle.moves.specs.Tidy.{place_of, neighbours, accepted}
use Rattle.moves.specs.Propose.{numbered}
use Rattle.moves.proofs.Places.{mem_get_d, sum_occ_above, sum_ones}
use Rattle.audit.proofs.Owners.{length_count_from, get_d_count_from}
use Rattle.moves.proofs.Bytewise.{length-map, get_d_map}

pub length_numbered : (i : ℕ) (ps row : List ℕ) → length (numbered i ps row) ≡ length row
unfolding numbered
length_numbered i [] row = refl
length_numbered i (p ∷ ps) row = length_numbered (suc i) ps (set row p i) ∙ length-set row p i

numbered_other : (i : ℕ) (ps row : List ℕ) (q : ℕ) → occ q ps ≡ 0 → get_or (numbered i ps row) q 0 ≡ get_or row q 0
unfolding numbered
numbered_other i [] row q h = refl
numbered_other i (p ∷ ps) row q h = elim (hit_cases q p) [
  | inl e ↦ absurd (omega (arith, e.1))
  | inr n ↦ numbered_other (suc i) ps (set row p i) q (omega (arith, n.1)) ∙ get_or-set_other row p q i 0 n.0
]

-- the page with index j in the order gets number i + j
pub numbered_at : (i : ℕ) (ps row : List ℕ) → Nodup ps → Under (length row) ps → (j : ℕ) → j < length ps → get_or (numbered i ps row) (get_or ps j 0) 0 ≡ i + j
unfolding numbered
numbered_at i [] row d u j l = absurd (omega arith)
numbered_at i (p ∷ ps) row d u zero l =
    numbered_other (suc i) ps (set row p i) p (nodup_head p ps d) ∙ get_or-set_same row p i 0 (under_head (length row) p ps u) ∙ omega arith
numbered_at i (p ∷ ps) row d u (suc j) l =
    numbered_at (suc i) ps (set row p i) (nodup_tail p ps d) (λ q k. under_tail (length row) p ps u q (omega (arith, length-set row p i))) j (omega arith) ∙ omega arith

-- ---- counts

sum_least : (f : ℕ → ℕ) (n : ℕ) → ((i : ℕ) → i < n → 1 ≤ f i) → n ≤ sum f n
sum_least f zero h = omega arith
sum_least f (suc n) h = omega (arith, sum_least f n (λ i l. h i (omega arith)), h n (omega arith))

sum_tight : (f : ℕ → ℕ) (n : ℕ) → sum f n ≤ n → ((i : ℕ) → i < n → 1 ≤ f i) → (i : ℕ) → i < n → f i ≡ 1
sum_tight f zero t h i l = absurd (omega arith)
sum_tight f (suc n) t h i l = elim (dec_lt i n) [
  | yes u ↦ sum_tight f n (omega (arith, h n (omega arith))) (λ j k. h j (omega arith)) i u
  | no u ↦
      let e : i ≡ n = omega arith in
      ap f e ∙ omega (arith, sum_least f n (λ j k. h j (omega arith)), h n (omega arith))
]

-- n numbers of which each below n is one: none stands twice
pub once_each : (xs : List ℕ) (n : ℕ) → length xs ≡ n → ((q : ℕ) → q < n → Mem q xs) → Nodup xs
once_each xs n e h q = elim (dec_lt q n) [
  | yes u ↦ omega (arith, sum_tight (λ p. occ p xs) n (omega (arith, sum_occ_above xs n n (omega arith))) h q u)
  | no u ↦ omega (arith, sum_occ_above xs n q (omega arith), sum_least (λ p. occ p xs) n h)
]

sum_full : (f : ℕ → ℕ) (n : ℕ) → n ≤ sum f n → ((i : ℕ) → f i ≤ 1) → (i : ℕ) → i < n → f i ≡ 1
sum_full f zero t h i l = absurd (omega arith)
sum_full f (suc n) t h i l = elim (dec_lt i n) [
  | yes u ↦ sum_full f n (omega (arith, h n)) h i u
  | no u ↦
      let e : i ≡ n = omega arith in
      ap f e ∙ omega (arith, h n, sum_one f n (λ j k. h j))
]

-- the other way, as a check goes: n numbers below n of which none stands twice are all of them
pub each_once : (xs : List ℕ) (n : ℕ) → length xs ≡ n → Nodup xs → Under n xs → (q : ℕ) → q < n → Mem q xs
each_once xs n e d u q l = omega (arith, sum_full (λ p. occ p xs) n (omega (arith, sum_occ xs n u)) d q l)

-- ---- neighbours

neighbours_count : (s k : ℕ) → T (neighbours (count_from s k))
unfolding neighbours count_from
neighbours_count s zero = tt
neighbours_count s (suc k) =
    subst (λ (n : ℕ). T (same (count_from (suc s) k) (count_from (suc s) n))) (sym (length_count_from (suc s) k)) (same_refl (count_from (suc s) k))

-- a list that stands in another one as it is
pub record Together (order ps : List ℕ) : Type 0 where
  pub before : List ℕ
  pub behind : List ℕ
  pub whole : order ≡ before ++ (ps ++ behind)

get_d_mid : (xs ps ys : List ℕ) (j : ℕ) → j < length ps → get_or (xs ++ (ps ++ ys)) (length xs + j) 0 ≡ get_or ps j 0
get_d_mid xs ps ys j l = get_or-append-add xs (ps ++ ys) j 0 ∙ left ps j l
  where
    left : (ps : List ℕ) (j : ℕ) → j < length ps → get_or (ps ++ ys) j 0 ≡ get_or ps j 0
    left [] j l = absurd (omega arith)
    left (p ∷ ps) zero l = refl
    left (p ∷ ps) (suc j) l = left ps j (omega arith)

module _ (b : Bytes) (order row : List ℕ) (many : length row ≡ page_count b) (low : 1 ≤ page_count b)
    (once : (q : ℕ) → q < page_count b → occ q order ≡ 1) (under : Under (page_count b) order) (head : get_or order 0 0 ≡ 0)
    (together : (at : ℕ) → Mem at (reached_entries b) → Together order (pages_at (view b) at)) where
  long : length order ≡ page_count b
  long = omega (arith, sum_occ order (page_count b) under, sum_ones (λ p. occ p order) (page_count b) once)

  nodup : Nodup order
  nodup q = elim (dec_lt q (page_count b)) [ yes u ↦ omega (arith, once q u) | no u ↦ omega (arith, under q (omega arith)) ]

  under_row : Under (length row) order
  under_row q l = under q (omega arith)

  abbrev places : List ℕ
  places = numbered 0 order row

  many_places : length places ≡ page_count b
  many_places = length_numbered 0 order row ∙ many

  place_at : (j : ℕ) → j < page_count b → place_of places (get_or order j 0) ≡ j
  place_at j l = numbered_at 0 order row nodup under_row j (omega (arith, long)) ∙ omega arith

  there : (q : ℕ) → q < page_count b → Mem q places
  there q l =
      let p = get_or order q 0 in
      let k : get_or order q 0 < page_count b = under_mem (page_count b) order under (get_or order q 0) (mem_get_d order q (omega (arith, long))) in
      subst (λ (x : ℕ). Mem x places) (place_at q l) (mem_get_d places (get_or order q 0) (omega (arith, many_places)))

  near : (ps : List ℕ) → Together order ps → T (neighbours (map (place_of places) ps))
  near ps t =
      let n = length t.before in
      let size : length order ≡ n + (length ps + length t.behind) =
      ap length t.whole ∙ length-append t.before (ps ++ t.behind) ∙ ap (λ (k : ℕ). n + k) (length-append ps t.behind) in
      let e : map (place_of places) ps ≡ count_from n (length ps) =
      ext_get_or 0 (map (place_of places) ps) (count_from n (length ps)) (length-map (place_of places) ps ∙ sym (length_count_from n (length ps))) (λ j l.
      let u : j < length ps = omega (arith, length-map (place_of places) ps) in
      get_d_map (place_of places) ps j u
      ∙ ap (place_of places) (sym (get_d_mid t.before ps t.behind j u) ∙ ap (λ (l : List ℕ). get_or l (n + j) 0) (sym t.whole))
      ∙ place_at (n + j) (omega (arith, long, size)) ∙ sym (get_d_count_from n (length ps) j u)) in
      subst (λ (l : List ℕ). T (neighbours l)) (sym e) (neighbours_count n (length ps))

  pub order_accepted : T (accepted b places)
  unfolding accepted
  order_accepted =
      let first : place_of places 0 ≡ 0 = ap (place_of places) (sym head) ∙ place_at 0 low in
      cons_conditions _ _ (eq-eqb many_places)
      (cons_conditions _ _ (occ_all (λ q. member q places) (up_to (page_count b)) (λ q m. let r = count_from_occ 0 (page_count b) q m in occ_member q places (there q (omega (arith, r.1)))))
      (cons_conditions _ _ (occ_distinct places (once_each places (page_count b) many_places there))
      (cons_conditions _ _ (eq-eqb first)
      (cons_conditions _ [] (occ_all (λ at. neighbours (map (place_of places) (pages_at (view b) at))) (reached_entries b) (λ at m. near (pages_at (view b) at) (together at m)))
      no_conditions))))
