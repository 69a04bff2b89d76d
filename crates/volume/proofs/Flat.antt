-- mathlib's flat_map: it joins one list for each element, so lengths and counts are sums, and two different elements have two stretches of it.
use mathlib.Core.Path.{◌≡◌, refl, sym, ap, ap₂, ◌∙◌}
use mathlib.Core.Logic.{◌≢◌, inl, inr}
use Prim.Native.Nat.{ℕ, ◌+◌, ◌*◌, ◌≤◌}
use native.Mathlib.Omega.{arith}
use native.Mathlib.Nat.{mul-suc}
use mathlib.Core.List.{List, [], ◌∷◌, ◌++◌, flat_map, append_assoc}
use lib.ListN.{length, length-append}
use Rattle.volume.proofs.Occ.{occ, Nodup, occ_append, mem_head, mem_tail, mem_cons, mem_or_not, mem_apart, nodup_head, nodup_tail}

pub flat_map_append {ℓ κ} : {A : Type ℓ} {B : Type κ} (f : A → List B) (xs ys : List A) → flat_map f (xs ++ ys) ≡ flat_map f xs ++ flat_map f ys
unfolding flat_map
flat_map_append f [] ys = refl
flat_map_append {B = B} f (x ∷ xs) ys = ap (λ (r : List B). f x ++ r) (flat_map_append f xs ys) ∙ sym (append_assoc (f x) (flat_map f xs) (flat_map f ys))

pub flat_map_flat_map {ℓ κ μ} : {A : Type ℓ} {B : Type κ} {C : Type μ} (f : B → List C) (g : A → List B) (xs : List A)
    → flat_map f (flat_map g xs) ≡ flat_map (λ x. flat_map f (g x)) xs
unfolding flat_map
flat_map_flat_map f g [] = refl
flat_map_flat_map {C = C} f g (x ∷ xs) = flat_map_append f (g x) (flat_map g xs) ∙ ap (λ (r : List C). flat_map f (g x) ++ r) (flat_map_flat_map f g xs)

module _ {κ} {B : Type κ} where
  pub flat_map_length : (f : ℕ → List B) (n : ℕ) (xs : List ℕ) → ((x : ℕ) → 1 ≤ occ x xs → length (f x) ≡ n) → length (flat_map f xs) ≡ n * length xs
  unfolding flat_map
  flat_map_length f n [] h = omega arith
  flat_map_length f n (x ∷ xs) h =
      length-append (f x) (flat_map f xs)
      ∙ omega (arith, h x (mem_head x xs), flat_map_length f n xs (λ y m. h y (mem_tail y x xs m)), mul-suc n (length xs))

  pub flat_map_same : (f g : ℕ → List B) (xs : List ℕ) → ((x : ℕ) → 1 ≤ occ x xs → f x ≡ g x) → flat_map f xs ≡ flat_map g xs
  unfolding flat_map
  flat_map_same f g [] h = refl
  flat_map_same f g (x ∷ xs) h =
      ap₂ {C = List B} (λ (u v : List B). u ++ v) (h x (mem_head x xs)) (flat_map_same f g xs (λ y m. h y (mem_tail y x xs m)))

-- ---- counts

module _ (f : ℕ → List ℕ) where
  pub occ_flat_map_le : (xs : List ℕ) (x q : ℕ) → 1 ≤ occ x xs → occ q (f x) ≤ occ q (flat_map f xs)
  unfolding flat_map
  occ_flat_map_le [] x q m = absurd (omega arith)
  occ_flat_map_le (y ∷ ys) x q m = elim (mem_cons x y ys m) [
    | inl e ↦ omega (arith, occ_append q (f y) (flat_map f ys), ap (λ (z : ℕ). occ q (f z)) e)
    | inr k ↦ omega (arith, occ_append q (f y) (flat_map f ys), occ_flat_map_le ys x q k)
  ]

  pub occ_flat_map_two : (xs : List ℕ) (x y q : ℕ) → x ≢ y → 1 ≤ occ x xs → 1 ≤ occ y xs → occ q (f x) + occ q (f y) ≤ occ q (flat_map f xs)
  unfolding flat_map
  occ_flat_map_two [] x y q ne m k = absurd (omega arith)
  occ_flat_map_two (z ∷ zs) x y q ne m k = elim (mem_cons x z zs m) [
    | inl e ↦ elim (mem_cons y z zs k) [
      | inl d ↦ absurd (ne (e ∙ sym d))
      | inr l ↦ omega (arith, occ_append q (f z) (flat_map f zs), ap (λ (w : ℕ). occ q (f w)) e, occ_flat_map_le zs y q l)
    ]
    | inr j ↦ elim (mem_cons y z zs k) [
      | inl d ↦ omega (arith, occ_append q (f z) (flat_map f zs), ap (λ (w : ℕ). occ q (f w)) d, occ_flat_map_le zs x q j)
      | inr l ↦ omega (arith, occ_append q (f z) (flat_map f zs), occ_flat_map_two zs x y q ne j l)
    ]
  ]

  -- what stands in it stands in one element's stretch
  pub mem_flat_map : (xs : List ℕ) (q : ℕ) → 1 ≤ occ q (flat_map f xs) → (x : ℕ) × (1 ≤ occ x xs) × (1 ≤ occ q (f x))
  unfolding flat_map
  mem_flat_map [] q h = absurd (omega arith)
  mem_flat_map (x ∷ xs) q h = elim (mem_or_not q (f x)) [
    | inl m ↦ (x, mem_head x xs, m)
    | inr z ↦ let r = mem_flat_map xs q (omega (arith, occ_append q (f x) (flat_map f xs))) in (r.0, mem_tail r.0 x xs r.1, r.2)
  ]

-- one element's stretch is another
pub occ_flat_map_change : (f g : ℕ → List ℕ) (xs : List ℕ) (at q : ℕ) → Nodup xs → 1 ≤ occ at xs
    → ((x : ℕ) → 1 ≤ occ x xs → x ≢ at → f x ≡ g x)
    → occ q (flat_map g xs) + occ q (f at) ≡ occ q (flat_map f xs) + occ q (g at)
unfolding flat_map
occ_flat_map_change f g [] at q d m h = absurd (omega arith)
occ_flat_map_change f g (x ∷ xs) at q d m h = elim (mem_cons at x xs m) [
  | inl e ↦
      let same : flat_map f xs ≡ flat_map g xs = flat_map_same f g xs (λ y k. h y (mem_tail y x xs k) (λ u. mem_apart y x xs k (nodup_head x xs d) (u ∙ e))) in
      omega (arith, ap (occ q) same, ap (λ (z : ℕ). occ q (f z)) e, ap (λ (z : ℕ). occ q (g z)) e, occ_append q (f x) (flat_map f xs), occ_append q (g x) (flat_map g xs))
  | inr k ↦
      let other : f x ≡ g x = h x (mem_head x xs) (λ u. mem_apart at x xs k (nodup_head x xs d) (sym u)) in
      omega (
        arith,
        occ_flat_map_change f g xs at q (nodup_tail x xs d) k (λ y l ne. h y (mem_tail y x xs l) ne),
        ap (occ q) other,
        occ_append q (f x) (flat_map f xs),
        occ_append q (g x) (flat_map g xs),
      )
]

-- one element's list is no longer than all together
pub flat_map_length_le : (f : ℕ → List ℕ) (xs : List ℕ) (x : ℕ) → 1 ≤ occ x xs → length (f x) ≤ length (flat_map f xs)
unfolding flat_map
flat_map_length_le f [] x m = absurd (omega arith)
flat_map_length_le f (y ∷ ys) x m = elim (mem_cons x y ys m) [
  | inl e ↦ omega (arith, length-append (f y) (flat_map f ys), ap (λ (z : ℕ). length (f z)) e)
  | inr k ↦ omega (arith, length-append (f y) (flat_map f ys), flat_map_length_le f ys x k)
]
