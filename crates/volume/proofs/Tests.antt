-- What the tests on lists say: each runs along the list, so its value is a fact about every number that stands there.
use mathlib.Core.Path.{◌≡◌, refl, sym, ap, ap₂, ◌∙◌, subst}
use mathlib.Core.Logic.{inl, inr}
use Prim.Native.Nat.{ℕ, zero, suc, ◌+◌, ◌≤◌, ◌<◌}
use native.Mathlib.Numerals.{add-one}
use native.Mathlib.Omega.{arith}
use native.Mathlib.Decide.{ℕ_discrete}
use mathlib.Core.Bool.{Bool, true, false, not, ◌&&◌, ◌||◌}
use mathlib.Core.Option.{Option, none, some}
use mathlib.Core.List.{List, [], ◌∷◌}
use lib.ListN.{length, get_or, drop, drop_of_length-le}
use lib.Seq.{drop-cons}
use lib.Dec.{T, eqb, eqb→eq, eqb_refl, T_not, not_T}
use borrow.Author.Tests as Of
use Rattle.volume.specs.Bytes.{Bytes, same}
use Rattle.std.specs.Prelude.{cond, if◌then◌else◌}
use Rattle.volume.specs.Lists.{all, any, conditions, member, distinct, count_from, first}
use Rattle.volume.proofs.Occ.{hit, hit_refl, hit_ne, hit_cases, occ, Nodup, mem_head, mem_tail, mem_cons, mem_or_not, nodup_head, nodup_tail, nodup_cons}

pub and_both : (a b : Bool) → T (a && b) → T a × T b
and_both true b h = (tt, h)
and_both false b h = absurd h

pub both_and : (a b : Bool) → T a → T b → T (a && b)
both_and true b h k = k
both_and false b h k = absurd h

pub not_not : (c : Bool) → T (not (not c)) → T c
not_not true h = tt
not_not false h = h

pub not_not_of : (c : Bool) → T c → T (not (not c))
not_not_of true h = tt
not_not_of false h = h

pub if_yes {ℓ} : {A : Type ℓ} (c : Bool) (x y : A) → T c → cond c x y ≡ x
if_yes true x y h = refl
if_yes false x y h = absurd h

pub if_no {ℓ} : {A : Type ℓ} (c : Bool) (x y : A) → T (not c) → cond c x y ≡ y
if_no true x y h = absurd h
if_no false x y h = refl

pub no_conditions : T (conditions [])
unfolding all
no_conditions = tt

pub conditions_cons : (c : Bool) (cs : List Bool) → T (conditions (c ∷ cs)) → T c × T (conditions cs)
unfolding all
conditions_cons c cs h = and_both c (conditions cs) h

pub cons_conditions : (c : Bool) (cs : List Bool) → T c → T (conditions cs) → T (conditions (c ∷ cs))
unfolding all
cons_conditions c cs h k = both_and c (conditions cs) h k

-- ---- a test that runs along a list, at index k

pub all_next : (l : Bytes) (k : ℕ) → k < length l → (f : ℕ → Bool) → all f (drop k l) ≡ (f (get_or l k 0) && all f (drop (k + 1) l))
unfolding all
all_next l k h f = rw (add-one, drop-cons l k 0)

pub all_end : (l : Bytes) (k : ℕ) → length l ≤ k → (f : ℕ → Bool) → all f (drop k l) ≡ true
unfolding all
all_end l k h f = rw (drop_of_length-le l h)

-- ---- membership is a count

pub member_occ : (p : ℕ) (xs : List ℕ) → T (member p xs) → 1 ≤ occ p xs
unfolding any
member_occ p [] h = absurd h
member_occ p (x ∷ xs) h = go (eqb p x) (eqb→eq p x) (member_occ p xs) h
  where
    go : (c : Bool) → (T c → p ≡ x) → (T (member p xs) → 1 ≤ occ p xs) → T (c || member p xs) → 1 ≤ hit p x + occ p xs
    go true e rest u = omega (arith, hit_refl p, ap (hit p) (e tt))
    go false e rest u = omega (arith, rest u)

pub occ_member : (p : ℕ) (xs : List ℕ) → 1 ≤ occ p xs → T (member p xs)
unfolding any
occ_member p [] h = absurd (omega arith)
occ_member p (x ∷ xs) h = go (eqb p x) refl (λ k. occ_member p xs k)
  where
    go : (c : Bool) → eqb p x ≡ c → (1 ≤ occ p xs → T (member p xs)) → T (c || member p xs)
    go true e rest = tt
    go false e rest = rest (omega (arith, hit_ne p x (Of.eqb-false p x e)))

pub distinct_occ : (xs : List ℕ) → T (distinct xs) → (p : ℕ) → occ p xs ≤ 1
unfolding distinct
distinct_occ [] h = λ p. omega arith
distinct_occ (x ∷ xs) h =
    let two = and_both (not (member x xs)) (distinct xs) h in
    nodup_cons x xs (elim (mem_or_not x xs) [ inl m ↦ absurd (T_not (member x xs) two.0 (occ_member x xs m)) | inr z ↦ z ]) (distinct_occ xs two.1)

pub occ_distinct : (xs : List ℕ) → ((p : ℕ) → occ p xs ≤ 1) → T (distinct xs)
unfolding distinct
occ_distinct [] h = tt
occ_distinct (x ∷ xs) h =
    both_and (not (member x xs)) (distinct xs)
    (not_T (member x xs) (λ m. omega (arith, member_occ x xs m, nodup_head x xs h))) (occ_distinct xs (nodup_tail x xs h))

-- ---- a test that all pass

pub all_occ : (f : ℕ → Bool) (ps : List ℕ) → T (all f ps) → (p : ℕ) → 1 ≤ occ p ps → T (f p)
unfolding all
all_occ f [] h p k = absurd (omega arith)
all_occ f (x ∷ xs) h p k =
    let two = and_both (f x) (all f xs) h in
    elim (mem_cons p x xs k) [ inl e ↦ subst (λ (y : ℕ). T (f y)) (sym e) two.0 | inr m ↦ all_occ f xs two.1 p m ]

pub occ_all : (f : ℕ → Bool) (ps : List ℕ) → ((p : ℕ) → 1 ≤ occ p ps → T (f p)) → T (all f ps)
unfolding all
occ_all f [] h = tt
occ_all f (x ∷ xs) h = both_and (f x) (all f xs) (h x (mem_head x xs)) (occ_all f xs (λ p m. h p (mem_tail p x xs m)))

-- ---- the n numbers from i

pub occ_count_from : (i n p : ℕ) → i ≤ p → p < i + n → 1 ≤ occ p (count_from i n)
unfolding count_from
occ_count_from i zero p h k = absurd (omega arith)
occ_count_from i (suc n) p h k = elim (hit_cases p i) [
  | inl e ↦ omega (arith, e.1)
  | inr d ↦ mem_tail p i (count_from (suc i) n) (occ_count_from (suc i) n p (omega (arith, d.0)) (omega arith))
]

pub count_from_occ : (i n p : ℕ) → 1 ≤ occ p (count_from i n) → (i ≤ p) × (p < i + n)
unfolding count_from
count_from_occ i zero p h = absurd (omega arith)
count_from_occ i (suc n) p h = elim (mem_cons p i (count_from (suc i) n) h) [
  | inl e ↦ (omega (arith, e), omega (arith, e))
  | inr m ↦ let t = count_from_occ (suc i) n p m in (omega (arith, t.0), omega (arith, t.1))
]

pub nodup_count_from : (i n : ℕ) → Nodup (count_from i n)
unfolding count_from
nodup_count_from i zero = λ p. omega arith
nodup_count_from i (suc n) =
    nodup_cons i (count_from (suc i) n)
    (elim (mem_or_not i (count_from (suc i) n)) [ inl m ↦ absurd (omega (arith, (count_from_occ (suc i) n i m).0)) | inr z ↦ z ])
    (nodup_count_from (suc i) n)

-- ---- the first number that passes

pub first_found : (f : ℕ → Bool) (xs : List ℕ) (x : ℕ) → first f xs ≡ some x → (1 ≤ occ x xs) × T (f x)
unfolding first
first_found f [] x e = let bad : ◌≡◌ {A = ℕ} 0 1 = cc in absurd (omega arith)
first_found f (y ∷ ys) x e = go (f y) refl (first_found f ys x) e
  where
    go : (c : Bool) → f y ≡ c → (first f ys ≡ some x → (1 ≤ occ x ys) × T (f x)) → (if c then some y else first f ys) ≡ some x → (1 ≤ occ x (y ∷ ys)) × T (f x)
    go true t rest e =
        let u : y ≡ x = cc in
        (omega (arith, hit_refl x, ap (hit x) u), subst (λ (z : ℕ). T (f z)) u (subst (λ (c : Bool). T c) (sym t) tt))
    go false t rest e = let r = rest e in (mem_tail x y ys r.0, r.1)

pub first_none : (f : ℕ → Bool) (xs : List ℕ) → first f xs ≡ none → (x : ℕ) → 1 ≤ occ x xs → T (not (f x))
unfolding first
first_none f [] e x m = absurd (omega arith)
first_none f (y ∷ ys) e x m = go (f y) refl (first_none f ys) e
  where
    go : (c : Bool) → f y ≡ c → (first f ys ≡ none → (z : ℕ) → 1 ≤ occ z ys → T (not (f z))) → (if c then some y else first f ys) ≡ none → T (not (f x))
    go true t rest e = let bad : ◌≡◌ {A = ℕ} 0 1 = cc in absurd (omega arith)
    go false t rest e = elim (mem_cons x y ys m) [
      | inl u ↦ subst (λ (z : ℕ). T (not (f z))) (sym u) (subst (λ (c : Bool). T (not c)) (sym t) tt)
      | inr k ↦ rest e x k
    ]

pub first_cong : (f g : ℕ → Bool) (xs : List ℕ) → ((x : ℕ) → 1 ≤ occ x xs → f x ≡ g x) → first f xs ≡ first g xs
unfolding first
first_cong f g [] h = refl
first_cong f g (x ∷ xs) h =
    ap₂ {C = Option ℕ} (λ (c : Bool) (r : Option ℕ). if c then some x else r) (h x (mem_head x xs)) (first_cong f g xs (λ y m. h y (mem_tail y x xs m)))

-- of a range, no number before the first passes
pub first_before : (f : ℕ → Bool) (i n x : ℕ) → first f (count_from i n) ≡ some x → (q : ℕ) → i ≤ q → q < x → T (not (f q))
unfolding first count_from
first_before f i zero x e q h k = let bad : ◌≡◌ {A = ℕ} 0 1 = cc in absurd (omega arith)
first_before f i (suc n) x e q h k = go (f i) refl (first_before f (suc i) n x) e
  where
    go : (c : Bool) → f i ≡ c → (first f (count_from (suc i) n) ≡ some x → (q : ℕ) → suc i ≤ q → q < x → T (not (f q)))
        → (if c then some i else first f (count_from (suc i) n)) ≡ some x → T (not (f q))
    go true t rest e = let u : i ≡ x = cc in absurd (omega arith)
    go false t rest e = elim (ℕ_discrete q i) [
      | yes u ↦ subst (λ (z : ℕ). T (not (f z))) (sym u) (subst (λ (c : Bool). T (not c)) (sym t) tt)
      | no u ↦ rest e q (omega (arith, u)) k
    ]

-- ---- equal bytes

pub eq-eqb : {a b : ℕ} → a ≡ b → T (eqb a b)
eq-eqb {a} {b} e = subst (λ (x : ℕ). T (eqb a x)) e (eqb_refl a)

eqb_sym : (a b : ℕ) → eqb a b ≡ eqb b a
eqb_sym a b = elim (ℕ_discrete a b) [
  | yes e ↦ Of.eq-eqb a b e ∙ sym (Of.eq-eqb b a (sym e))
  | no e ↦ Of.ne_eqb a b e ∙ sym (Of.ne_eqb b a (λ u. e (sym u)))
]

pub same_true : (a b : Bytes) → T (same a b) → a ≡ b
unfolding same
same_true [] [] h = refl
same_true [] (y ∷ ys) h = absurd h
same_true (x ∷ xs) [] h = absurd h
same_true (x ∷ xs) (y ∷ ys) h =
    let two = and_both (eqb x y) (same xs ys) h in
    ap₂ {C = Bytes} (λ (z : ℕ) (zs : Bytes). z ∷ zs) (eqb→eq x y two.0) (same_true xs ys two.1)

pub same_refl : (a : Bytes) → T (same a a)
unfolding same
same_refl [] = tt
same_refl (x ∷ xs) = both_and (eqb x x) (same xs xs) (eqb_refl x) (same_refl xs)

pub same_sym : (a b : Bytes) → same a b ≡ same b a
unfolding same
same_sym [] [] = refl
same_sym [] (y ∷ ys) = refl
same_sym (x ∷ xs) [] = refl
same_sym (x ∷ xs) (y ∷ ys) = ap₂ {C = Bool} (λ (c d : Bool). c && d) (eqb_sym x y) (same_sym xs ys)
