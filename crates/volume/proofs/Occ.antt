-- How often a number stands in a list, and sums over indices: lists one after the other add their counts, so almost every fact is linear arithmetic.
-- `Mem p xs`, `Nodup xs` and `Under n xs` are said by counts alone, and so `omega` reads them.
use mathlib.Core.Path.{◌≡◌, refl, ap}
use mathlib.Core.Logic.{◌≢◌, ◌⊎◌, inl, inr}
use mathlib.Core.Bool.{Bool, true, false}
use mathlib.Core.List.{List, [], ◌∷◌, ◌++◌}
use Prim.Native.Nat.{ℕ, zero, suc, ◌+◌, ◌≤◌, ◌<◌}
use native.Mathlib.Nat.{lt_of_not-le}
use native.Mathlib.Omega.{arith}
use lib.Dec.{eqb}
use lib.ListN.{length}
use borrow.Author.Tests.{eqb-true, eqb-false, eq-eqb, ne_eqb}

abbrev flag : Bool → ℕ
flag true = 1
flag false = 0

-- 1 if a and b are equal, and 0 if not
unfoldable pub hit : ℕ → ℕ → ℕ
hit a b = flag (eqb a b)

pub hit_refl : (a : ℕ) → hit a a ≡ 1
unfolding hit
hit_refl a = ap flag (eq-eqb a a refl)

pub hit_ne : (a b : ℕ) → a ≢ b → hit a b ≡ 0
unfolding hit
hit_ne a b h = ap flag (ne_eqb a b h)

pub hit_cases : (a b : ℕ) → ((a ≡ b) × (hit a b ≡ 1)) ⊎ ((a ≢ b) × (hit a b ≡ 0))
unfolding hit
hit_cases a b = go (eqb a b) refl
  where
    go : (t : Bool) → eqb a b ≡ t → ((a ≡ b) × (hit a b ≡ 1)) ⊎ ((a ≢ b) × (hit a b ≡ 0))
    go true e = inl (eqb-true a b e, ap flag e)
    go false e = inr (eqb-false a b e, ap flag e)

-- ---- how often p stands in a list

abbrev pub occ : ℕ → List ℕ → ℕ
occ p [] = 0
occ p (x ∷ xs) = hit p x + occ p xs

-- p stands in xs
abbrev pub Mem : ℕ → List ℕ → Type 0
Mem p xs = 1 ≤ occ p xs

-- no number stands twice in xs
abbrev pub Nodup : List ℕ → Type 0
Nodup xs = (p : ℕ) → occ p xs ≤ 1

-- every number of xs is below n
abbrev pub Under : ℕ → List ℕ → Type 0
Under n xs = (p : ℕ) → n ≤ p → occ p xs ≡ 0

pub occ_append : (p : ℕ) (xs ys : List ℕ) → occ p (xs ++ ys) ≡ occ p xs + occ p ys
occ_append p [] ys = omega arith
occ_append p (x ∷ xs) ys = omega (arith, occ_append p xs ys)

pub mem_head : (x : ℕ) (xs : List ℕ) → Mem x (x ∷ xs)
mem_head x xs = omega (arith, hit_refl x)

pub mem_tail : (p x : ℕ) (xs : List ℕ) → Mem p xs → Mem p (x ∷ xs)
mem_tail p x xs m = omega arith

pub mem_cons : (p x : ℕ) (xs : List ℕ) → Mem p (x ∷ xs) → (p ≡ x) ⊎ Mem p xs
mem_cons p x xs m = elim (hit_cases p x) [ inl e ↦ inl e.0 | inr n ↦ inr (omega (arith, n.1)) ]

pub mem_or_not : (p : ℕ) (xs : List ℕ) → Mem p xs ⊎ (occ p xs ≡ 0)
mem_or_not p xs = go (occ p xs) refl
  where
    go : (k : ℕ) → occ p xs ≡ k → Mem p xs ⊎ (occ p xs ≡ 0)
    go zero e = inr e
    go (suc k) e = inl (omega arith)

pub not_mem : (p : ℕ) (xs : List ℕ) → (Mem p xs → ⊥) → occ p xs ≡ 0
not_mem p xs h = elim (mem_or_not p xs) [ inl m ↦ absurd (h m) | inr e ↦ e ]

-- a number that stands in a list is none that does not
pub mem_apart : (p q : ℕ) (xs : List ℕ) → Mem p xs → occ q xs ≡ 0 → p ≢ q
mem_apart p q xs m z e = omega (arith, ap (λ (x : ℕ). occ x xs) e)

-- ---- sums over the indices below n

abbrev pub sum : (ℕ → ℕ) → ℕ → ℕ
sum f zero = 0
sum f (suc n) = sum f n + f n

pub sum_cong : (f g : ℕ → ℕ) (n : ℕ) → ((i : ℕ) → i < n → f i ≡ g i) → sum f n ≡ sum g n
sum_cong f g zero h = refl
sum_cong f g (suc n) h = omega (arith, sum_cong f g n (λ i l. h i (omega arith)), h n (omega arith))

pub sum_add : (f g : ℕ → ℕ) (n : ℕ) → sum (λ i. f i + g i) n ≡ sum f n + sum g n
sum_add f g zero = refl
sum_add f g (suc n) = omega (arith, sum_add f g n)

pub sum_mono : (f g : ℕ → ℕ) (n : ℕ) → ((i : ℕ) → i < n → f i ≤ g i) → sum f n ≤ sum g n
sum_mono f g zero h = omega arith
sum_mono f g (suc n) h = omega (arith, sum_mono f g n (λ i l. h i (omega arith)), h n (omega arith))

pub sum_zero : (f : ℕ → ℕ) (n : ℕ) → ((i : ℕ) → i < n → f i ≡ 0) → sum f n ≡ 0
sum_zero f zero h = refl
sum_zero f (suc n) h = omega (arith, sum_zero f n (λ i l. h i (omega arith)), h n (omega arith))

pub sum_one : (f : ℕ → ℕ) (n : ℕ) → ((i : ℕ) → i < n → f i ≤ 1) → sum f n ≤ n
sum_one f zero h = omega arith
sum_one f (suc n) h = omega (arith, sum_one f n (λ i l. h i (omega arith)), h n (omega arith))

pub sum_hit : (p n : ℕ) → p < n → sum (λ i. hit i p) n ≡ 1
sum_hit p zero l = omega arith
sum_hit p (suc n) l = go (λ b. sum_hit p n b) (hit_cases n p)
  where
    go : (p < n → sum (λ i. hit i p) n ≡ 1) → ((n ≡ p) × (hit n p ≡ 1)) ⊎ ((n ≢ p) × (hit n p ≡ 0)) → sum (λ i. hit i p) (suc n) ≡ 1
    go ih (inl e) = omega (arith, sum_zero (λ i. hit i p) n (λ i b. hit_ne i p (omega arith)))
    go ih (inr d) = omega (arith, ih (omega arith))

-- ---- numbers below a bound

pub under_mem : (n : ℕ) (xs : List ℕ) → Under n xs → (p : ℕ) → Mem p xs → p < n
under_mem n xs u p m = lt_of_not-le (λ (g : n ≤ p). omega (arith, u p g))

pub under_of_mem : (n : ℕ) (xs : List ℕ) → ((p : ℕ) → Mem p xs → p < n) → Under n xs
under_of_mem n xs h p l = not_mem p xs (λ m. omega (arith, h p m))

pub under_cons : (n x : ℕ) (xs : List ℕ) → x < n → Under n xs → Under n (x ∷ xs)
under_cons n x xs b u p l = omega (arith, hit_ne p x (omega arith), u p l)

pub under_head : (n x : ℕ) (xs : List ℕ) → Under n (x ∷ xs) → x < n
under_head n x xs u = under_mem n (x ∷ xs) u x (mem_head x xs)

pub under_tail : (n x : ℕ) (xs : List ℕ) → Under n (x ∷ xs) → Under n xs
under_tail n x xs u p l = omega (arith, u p l)

pub under_append : (n : ℕ) (xs ys : List ℕ) → Under n xs → Under n ys → Under n (xs ++ ys)
under_append n xs ys u v p l = omega (arith, occ_append p xs ys, u p l, v p l)

-- the numbers of a list, counted by their value
pub sum_occ : (xs : List ℕ) (n : ℕ) → Under n xs → sum (λ p. occ p xs) n ≡ length xs
sum_occ [] n u = sum_zero (λ p. 0) n (λ i l. refl)
sum_occ (x ∷ xs) n u =
    omega (arith, sum_add (λ p. hit p x) (λ p. occ p xs) n, sum_hit x n (under_head n x xs u), sum_occ xs n (under_tail n x xs u))

-- ---- no number twice

pub nodup_cons : (x : ℕ) (xs : List ℕ) → occ x xs ≡ 0 → Nodup xs → Nodup (x ∷ xs)
nodup_cons x xs h d p = elim (hit_cases p x) [
  | inl e ↦ omega (arith, e.1, ap (λ (q : ℕ). occ q xs) e.0)
  | inr n ↦ omega (arith, n.1, d p)
]

pub nodup_head : (x : ℕ) (xs : List ℕ) → Nodup (x ∷ xs) → occ x xs ≡ 0
nodup_head x xs d = omega (arith, d x, hit_refl x)

pub nodup_tail : (x : ℕ) (xs : List ℕ) → Nodup (x ∷ xs) → Nodup xs
nodup_tail x xs d p = omega (arith, d p)

pub nodup_append : (xs ys : List ℕ) → Nodup xs → Nodup ys → ((p : ℕ) → Mem p xs → occ p ys ≡ 0) → Nodup (xs ++ ys)
nodup_append xs ys d e j p = elim (mem_or_not p xs) [
  | inl m ↦ omega (arith, occ_append p xs ys, d p, j p m)
  | inr z ↦ omega (arith, occ_append p xs ys, e p)
]
