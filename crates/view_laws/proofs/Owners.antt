-- The owners of a page of a sound image: none if its bit is 0, and one if it is 1, an entry or the root.
use mathlib.Core.Path.{◌≡◌, refl, ap, ap₂, subst}
use mathlib.Core.Logic.{inl, inr}
use Prim.Native.Nat.{ℕ, ◌+◌, ◌≤◌, ◌<◌}
use native.Mathlib.Omega.{arith}
use mathlib.Core.Bool.{Bool, true, false}
use mathlib.Core.List.{List, [], ◌∷◌, ◌++◌, flat_map, tail}
use lib.Dec.{T}
use Rattle.std.specs.Prelude.{if◌then◌else◌}
use Rattle.volume.specs.Lists.{keep, member}
use Rattle.volume.proofs.Occ.{occ, not_mem, occ_append, mem_or_not}
use Rattle.volume.proofs.Tests.{member_occ, occ_member}
use Rattle.model.specs.View.{View, page_bit}
use Rattle.model.specs.Sound.{pages_at, reached, owned, root_owns, owners_in}
use Rattle.view_laws.proofs.Facts.{Facts}

-- as many elements have p on their list as it stands in all lists together, if that is at most once
keep_none : (f : ℕ → List ℕ) (p : ℕ) (xs : List ℕ) → occ p (flat_map f xs) ≡ 0 → keep (λ x. member p (f x)) xs ≡ []
unfolding keep flat_map
keep_none f p [] h = refl
keep_none f p (x ∷ xs) h = go (member p (f x)) (member_occ p (f x)) (keep_none f p xs (omega (arith, occ_append p (f x) (flat_map f xs))))
  where
    go : (c : Bool) → (T c → 1 ≤ occ p (f x)) → keep (λ y. member p (f y)) xs ≡ [] → (if c then x ∷ keep (λ y. member p (f y)) xs else keep (λ y. member p (f y)) xs) ≡ []
    go true m r = absurd (omega (arith, m tt, occ_append p (f x) (flat_map f xs)))
    go false m r = r

keep_one : (f : ℕ → List ℕ) (p : ℕ) (xs : List ℕ) → occ p (flat_map f xs) ≡ 1 → (x : ℕ) × (keep (λ y. member p (f y)) xs ≡ x ∷ [])
unfolding keep flat_map
keep_one f p [] h = absurd (omega arith)
keep_one f p (x ∷ xs) h = go (member p (f x)) (member_occ p (f x)) refl (keep_one f p xs)
  where
    go : (c : Bool) → (T c → 1 ≤ occ p (f x)) → member p (f x) ≡ c
        → (occ p (flat_map f xs) ≡ 1 → (y : ℕ) × (keep (λ z. member p (f z)) xs ≡ y ∷ []))
        → (y : ℕ) × ((if c then x ∷ keep (λ z. member p (f z)) xs else keep (λ z. member p (f z)) xs) ≡ y ∷ [])
    go true m e next = (x, ap (λ (l : List ℕ). x ∷ l) (keep_none f p xs (omega (arith, m tt, occ_append p (f x) (flat_map f xs)))))
    go false m e next =
        let z : occ p (f x) ≡ 0 = not_mem p (f x) (λ k. subst (λ (c : Bool). T c) e (occ_member p (f x) k)) in
        next (omega (arith, z, occ_append p (f x) (flat_map f xs)))

-- the root, by its pages after the header
root_none : (p : ℕ) (rs : List ℕ) → occ p rs ≡ 0 → root_owns p rs ≡ []
root_none p [] h = refl
root_none p (q ∷ qs) h = go (member p (q ∷ qs)) (member_occ p (q ∷ qs))
  where
    go : (c : Bool) → (T c → 1 ≤ occ p (q ∷ qs)) → (if◌then◌else◌ {A = List ℕ} c (0 ∷ []) []) ≡ []
    go true m = absurd (omega (arith, m tt, h))
    go false m = refl

root_one : (p : ℕ) (rs : List ℕ) → 1 ≤ occ p rs → root_owns p rs ≡ 0 ∷ []
root_one p [] h = absurd (omega arith)
root_one p (q ∷ qs) h = go (member p (q ∷ qs)) (occ_member p (q ∷ qs) h)
  where
    go : (c : Bool) → T c → (if◌then◌else◌ {A = List ℕ} c (0 ∷ []) []) ≡ 0 ∷ []
    go true m = refl
    go false m = absurd m

module _ {v : View} (f : Facts v) (p : ℕ) (behind : v.geometry.aside ≤ p) (here : p < v.pages) where
  abbrev rest : List ℕ
  rest = tail (v.directory_pages 0)

  abbrev below : List ℕ
  below = owned v.pages v 0

  shares : occ p rest + occ p below ≡ page_bit v p
  shares = omega (arith, f.exact p behind here, occ_append p rest below)

  pub owners_free : page_bit v p ≡ 0 → owners_in v p ≡ []
  unfolding owners_in
  owners_free z = ap₂ (λ (xs ys : List ℕ). xs ++ ys) (root_none p rest (omega (arith, shares, z))) (keep_none (pages_at v) p (reached v.pages v 0) (omega (arith, shares, z)))

  pub owners_one : page_bit v p ≡ 1 → (at : ℕ) × (owners_in v p ≡ at ∷ [])
  unfolding owners_in
  owners_one o = elim (mem_or_not p rest) [
    | inl m ↦ (0, ap₂ (λ (xs ys : List ℕ). xs ++ ys) (root_one p rest m) (keep_none (pages_at v) p (reached v.pages v 0) (omega (arith, shares, o, m))))
    | inr z ↦
        let r = keep_one (pages_at v) p (reached v.pages v 0) (omega (arith, shares, o, z)) in
        (r.0, ap₂ (λ (xs ys : List ℕ). xs ++ ys) (root_none p rest z) r.1)
  ]
