-- An accepted proposal is a renaming of the pages: N numbers of which each below N occurs once go both ways.
use mathlib.Core.Path.{◌≡◌, refl, sym, ap}
use mathlib.Core.Logic.{inl, inr}
use Prim.Native.Nat.{ℕ, zero, suc, ◌+◌, ◌≤◌, ◌<◌}
use native.Mathlib.Omega.{arith}
use native.Mathlib.Decide.{dec_lt}
use mathlib.Core.Option
use mathlib.Core.Option.{Option, none, some}
use mathlib.Core.List.{List, [], ◌∷◌, map}
use lib.ListN.{length, get_or}
use lib.Dec.{T, eqb, eqb→eq, T_not}
use Rattle.volume.specs.Bytes.{Bytes}
use Rattle.volume.specs.Lists.{all, member, distinct, up_to, first}
use Rattle.volume.proofs.Occ.{hit, hit_ne, hit_cases, occ, Mem, Nodup, Under, mem_head, mem_tail, mem_cons, sum, sum_add, sum_zero, sum_hit, under_mem, nodup_head, nodup_tail}
use Rattle.volume.proofs.Tests.{conditions_cons, member_occ, distinct_occ, all_occ, occ_count_from, count_from_occ, first_found, first_none, eq-eqb}
use Rattle.model.specs.Layout.{page_count}
use Rattle.model.specs.Version1.{view}
use Rattle.model.specs.Sound.{pages_at, reached_entries}
use Rattle.moves.specs.Tidy.{place_of, page_at, neighbours, accepted}

-- pages below N and their places, both ways; page 0 stays
pub record Renaming (N : ℕ) (to from : ℕ → ℕ) : Type 0 where
  pub stays : to 0 ≡ 0
  pub low : (p : ℕ) → p < N → to p < N
  pub back : (p : ℕ) → p < N → from (to p) ≡ p
  pub onto : (q : ℕ) → q < N → (from q < N) × (to (from q) ≡ q)

-- ---- counts

hit_sum : (x y n : ℕ) → n ≤ x → sum (λ p. hit p y) n + hit x y ≤ 1
hit_sum x y n l = elim (dec_lt y n) [
  | yes u ↦ omega (arith, sum_hit y n u, hit_ne x y (omega arith))
  | no u ↦ elim (hit_cases x y) [
    | inl e ↦ omega (arith, e.1, sum_zero (λ p. hit p y) n (λ i k. hit_ne i y (omega arith)))
    | inr e ↦ omega (arith, e.1, sum_zero (λ p. hit p y) n (λ i k. hit_ne i y (omega arith)))
  ]
]

-- a number that is not below n is one of the others
pub sum_occ_above : (xs : List ℕ) (n x : ℕ) → n ≤ x → sum (λ p. occ p xs) n + occ x xs ≤ length xs
sum_occ_above [] n x l = omega (arith, sum_zero (λ p. 0) n (λ i k. refl))
sum_occ_above (y ∷ ys) n x l = omega (arith, sum_add (λ p. hit p y) (λ p. occ p ys) n, hit_sum x y n l, sum_occ_above ys n x l)

pub sum_ones : (f : ℕ → ℕ) (n : ℕ) → ((i : ℕ) → i < n → f i ≡ 1) → sum f n ≡ n
sum_ones f zero h = refl
sum_ones f (suc n) h = omega (arith, sum_ones f n (λ i l. h i (omega arith)), h n (omega arith))

-- n numbers, each below n among them, are all below n
all_below : (xs : List ℕ) (n : ℕ) → length xs ≡ n → ((q : ℕ) → q < n → occ q xs ≡ 1) → Under n xs
all_below xs n e h x l = omega (arith, sum_occ_above xs n x l, sum_ones (λ p. occ p xs) n h)

-- ---- numbers of a list and their indices

pub mem_get_d : (xs : List ℕ) (i : ℕ) → i < length xs → Mem (get_or xs i 0) xs
mem_get_d [] i l = absurd (omega arith)
mem_get_d (x ∷ xs) zero l = mem_head x xs
mem_get_d (x ∷ xs) (suc i) l = mem_tail (get_or xs i 0) x xs (mem_get_d xs i (omega arith))

get_d_mem : (xs : List ℕ) (x : ℕ) → Mem x xs → (i : ℕ) × (i < length xs) × (get_or xs i 0 ≡ x)
get_d_mem [] x m = absurd (omega arith)
get_d_mem (y ∷ ys) x m = elim (mem_cons x y ys m) [
  | inl e ↦ (0, omega arith, sym e)
  | inr k ↦ let r = get_d_mem ys x k in (suc r.0, omega (arith, r.1), r.2)
]

pub get_d_injective : (xs : List ℕ) → Nodup xs → (i j : ℕ) → i < length xs → j < length xs → get_or xs i 0 ≡ get_or xs j 0 → i ≡ j
get_d_injective [] d i j l u e = absurd (omega arith)
get_d_injective (x ∷ xs) d zero zero l u e = refl
get_d_injective (x ∷ xs) d zero (suc j) l u e = absurd (omega (arith, nodup_head x xs d, ap (λ (y : ℕ). occ y xs) e, mem_get_d xs j (omega arith)))
get_d_injective (x ∷ xs) d (suc i) zero l u e = absurd (omega (arith, nodup_head x xs d, ap (λ (y : ℕ). occ y xs) e, mem_get_d xs i (omega arith)))
get_d_injective (x ∷ xs) d (suc i) (suc j) l u e = ap suc (get_d_injective xs (nodup_tail x xs d) i j (omega arith) (omega arith) e)

-- ---- the page at a place

page_at_lem : (places : List ℕ) → Nodup places → (q : ℕ) → Mem q places → (page_at places q < length places) × (place_of places (page_at places q) ≡ q)
unfolding page_at
page_at_lem places d q m = go (first (λ p. eqb (place_of places p) q) (up_to (length places))) refl
  where
    go : (o : Option ℕ) → first (λ p. eqb (place_of places p) q) (up_to (length places)) ≡ o → (Option.get_or o 0 < length places) × (place_of places (Option.get_or o 0) ≡ q)
    go none e =
        let r = get_d_mem places q m in
        absurd (T_not (eqb (place_of places r.0) q) (first_none (λ p. eqb (place_of places p) q) (up_to (length places)) e r.0 (occ_count_from 0 (length places) r.0 (omega arith) (omega (arith, r.1)))) (eq-eqb r.2))
    go (some p) e =
        let r = first_found (λ p. eqb (place_of places p) q) (up_to (length places)) p e in
        let u = count_from_occ 0 (length places) p r.0 in (omega (arith, u.1), eqb→eq (place_of places p) q r.1)

pub record Accepted (b : Bytes) (places : List ℕ) : Type 0 where
  pub many : length places ≡ page_count b
  pub once : Nodup places
  pub under : Under (page_count b) places
  pub renames : Renaming (page_count b) (place_of places) (page_at places)
  pub near : (at : ℕ) → Mem at (reached_entries b) → T (neighbours (map (place_of places) (pages_at (view b) at)))

pub accepted_is : (b : Bytes) (places : List ℕ) → T (accepted b places) → Accepted b places
unfolding accepted
accepted_is b places h =
    let N = page_count b in
    let t1 = conditions_cons (eqb (length places) N) _ h in
    let t2 = conditions_cons (all (λ q. member q places) (up_to N)) _ t1.1 in
    let t3 = conditions_cons (distinct places) _ t2.1 in
    let t4 = conditions_cons (eqb (place_of places 0) 0) _ t3.1 in
    let t5 = conditions_cons (all (λ at. neighbours (map (place_of places) (pages_at (view b) at))) (reached_entries b)) [] t4.1 in
    let many : length places ≡ N = eqb→eq (length places) N t1.0 in
    let once : Nodup places = distinct_occ places t3.0 in
    let there : (q : ℕ) → q < N → Mem q places = λ q l. member_occ q places (all_occ (λ q. member q places) (up_to N) t2.0 q (occ_count_from 0 N q (omega arith) (omega arith))) in
    let below : Under N places = all_below places N many (λ q l. omega (arith, there q l, once q)) in
    let low : (p : ℕ) → p < N → place_of places p < N = λ p l. under_mem N places below (place_of places p) (mem_get_d places p (omega arith)) in
    record {
      many = many;
      once = once;
      under = below;
      renames = record {
        stays = eqb→eq (place_of places 0) 0 t4.0;
        low = low;
        back = λ p l.
            let r = page_at_lem places once (place_of places p) (there (place_of places p) (low p l)) in
            get_d_injective places once (page_at places (place_of places p)) p r.0 (omega arith) r.1;
        onto = λ q l. let r = page_at_lem places once q (there q l) in (omega (arith, r.0), r.1);
      };
      near = λ at m. all_occ (λ at. neighbours (map (place_of places) (pages_at (view b) at))) (reached_entries b) t5.0 at m;
    }
