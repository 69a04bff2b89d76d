-- In a sound image the entry that reaches a page is its one owner; and what is kept of a list, and what a list of numbers in a row has.
use mathlib.Core.Path.{◌≡◌, refl, sym, ap, ◌∙◌, subst}
use mathlib.Core.Logic.{inl, inr}
use Prim.Native.Nat.{ℕ, zero, suc, ◌+◌, ◌≤◌, ◌<◌}
use native.Mathlib.Omega.{arith}
use mathlib.Core.Bool.{Bool, true, false}
use mathlib.Core.List.{List, [], ◌∷◌}
use lib.ListN.{length, get_or}
use lib.Dec.{T}
use Rattle.volume.specs.Bytes.{Bytes}
use Rattle.std.specs.Prelude.{if◌then◌else◌}
use Rattle.volume.specs.Lists.{keep, member, count_from}
use Rattle.volume.proofs.Occ.{occ, Mem, mem_head, mem_tail, mem_cons}
use Rattle.volume.proofs.Tests.{occ_member}
use Rattle.volume.proofs.Flat.{occ_flat_map_le}
use Rattle.model.specs.Layout.{page_count}
use Rattle.model.specs.Version1.{view}
use Rattle.model.specs.Sound.{pages_at, reached_entries, owners, owners_in}
use Rattle.model.specs.Demands.{Owned, is_free, is_owned}
use Rattle.laws.proofs.Facts.{Facts}
use Rattle.laws.proofs.Lists.{page_owned}

pub get_d_count_from : (s n i : ℕ) → i < n → get_or (count_from s n) i 0 ≡ s + i
unfolding count_from
get_d_count_from s zero i l = absurd (omega arith)
get_d_count_from s (suc n) zero l = omega arith
get_d_count_from s (suc n) (suc i) l = get_d_count_from (suc s) n i (omega arith) ∙ omega arith

pub length_count_from : (s n : ℕ) → length (count_from s n) ≡ n
unfolding count_from
length_count_from s zero = refl
length_count_from s (suc n) = ap suc (length_count_from (suc s) n)

pub keep_mem : (f : ℕ → Bool) (xs : List ℕ) (x : ℕ) → Mem x (keep f xs) → Mem x xs × T (f x)
unfolding keep
keep_mem f [] x m = absurd (omega arith)
keep_mem f (y ∷ ys) x m = go (f y) refl m (keep_mem f ys x)
  where
    go : (c : Bool) → f y ≡ c → Mem x (if c then y ∷ keep f ys else keep f ys) → (Mem x (keep f ys) → Mem x ys × T (f x)) → Mem x (y ∷ ys) × T (f x)
    go true e m next = elim (mem_cons x y (keep f ys) m) [
      | inl q ↦ (subst (λ (z : ℕ). Mem z (y ∷ ys)) (sym q) (mem_head y ys), subst (λ (z : ℕ). T (f z)) (sym q) (subst (λ (c : Bool). T c) (sym e) tt))
      | inr k ↦ let r = next k in (mem_tail x y ys r.0, r.1)
    ]
    go false e m next = let r = next m in (mem_tail x y ys r.0, r.1)

mem_keep : (f : ℕ → Bool) (xs : List ℕ) (x : ℕ) → Mem x xs → T (f x) → Mem x (keep f xs)
unfolding keep
mem_keep f [] x m h = absurd (omega arith)
mem_keep f (y ∷ ys) x m h = elim (mem_cons x y ys m) [ inl q ↦ here (f y) (subst (λ (z : ℕ). T (f z)) q h) q | inr k ↦ there (f y) (mem_keep f ys x k h) ]
  where
    here : (c : Bool) → T c → x ≡ y → Mem x (if c then y ∷ keep f ys else keep f ys)
    here true t q = subst (λ (z : ℕ). Mem z (y ∷ keep f ys)) (sym q) (mem_head y (keep f ys))
    here false t q = absurd t

    there : (c : Bool) → Mem x (keep f ys) → Mem x (if c then y ∷ keep f ys else keep f ys)
    there true k = mem_tail x y (keep f ys) k
    there false k = k

only_one : (at x : ℕ) → Mem at (x ∷ []) → at ≡ x
only_one at x m = elim (mem_cons at x [] m) [ inl e ↦ e | inr k ↦ absurd (omega arith) ]

-- the owner of a page of a reached entry is that entry
pub owner_is : (b : Bytes) → Facts b → (at q : ℕ) → Mem at (reached_entries b) → Mem q (pages_at (view b) at) → (1 ≤ q) × (q < page_count b) × (owners b q ≡ at ∷ [])
unfolding owners_in
owner_is b f at q m k =
    let i = f.inside q (omega (arith, occ_flat_map_le (pages_at (view b)) (reached_entries b) at q m)) in
    (i.0, i.1, go (page_owned f q i.0 i.1))
  where
    has : Mem at (owners b q)
    has = mem_keep (λ x. member q (pages_at (view b) x)) (reached_entries b) at m (occ_member q (pages_at (view b) at) k)

    go : Owned b q → owners b q ≡ at ∷ []
    go (is_free z e) = absurd (omega (arith, ap (occ at) e, has))
    go (is_owned x o e) = e ∙ ap (λ (y : ℕ). y ∷ []) (sym (only_one at x (subst (Mem at) e has)))
