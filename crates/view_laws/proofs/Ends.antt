-- A directory that is a chain ends, if its pages differ and lie behind two pages set aside: there are fewer of them than pages. So a judge that
-- gives every page one owner need not ask whether directories end, which soundness does.
use mathlib.Core.Path.{◌≡◌, refl, sym, ap, subst}
use mathlib.Core.Logic.{◌⊎◌, inl, inr}
use Prim.Native.Nat.{ℕ, zero, suc, ◌+◌, ◌≤◌, ◌<◌}
use native.Mathlib.Omega.{arith}
use mathlib.Core.Bool.{Bool, true, false}
use mathlib.Core.List.{List, [], ◌∷◌, tail}
use lib.ListN.{length}
use lib.Dec.{T, eqb, eqb→eq, eqb_refl}
use Rattle.volume.specs.Bytes.{Bytes}
use Rattle.std.specs.Prelude.{if◌then◌else◌}
use Rattle.volume.specs.Chain.{beyond, linked}
use Rattle.volume.specs.Geometry.{Geometry, next}
use Rattle.volume.proofs.Occ.{occ, Mem, Nodup, Under, not_mem, hit_cases, hit_ne, sum_occ, sum_one, under_of_mem, under_cons}
use Rattle.volume.proofs.Chains.{chain_length}
use Rattle.model.specs.Entry.{Entry}
use Rattle.model.specs.Numbers.{Numbers}
use Rattle.model.specs.View.{View}
use Rattle.view_laws.proofs.Shelf.{seen}
use Rattle.view_laws.proofs.Chained.{linked_pages, chained}

-- pages that can have their owners end
abbrev pub Ending : View → Type 0
Ending v = (p : ℕ) → Nodup (v.directory_pages p) → ((q : ℕ) → Mem q (tail (v.directory_pages p)) → (v.geometry.aside ≤ q) × (q < v.pages)) → T (v.directory_ends p)

linked_ends : (f : ℕ → ℕ) (n p : ℕ) → (beyond f (linked f n p) p ≡ 0) ⊎ (linked f n p ≡ n)
unfolding linked beyond
linked_ends f zero p = inr refl
linked_ends f (suc n) p = go (eqb (f p) 0) (eqb→eq (f p) 0) (linked_ends f n (f p))
  where
    go : (c : Bool) → (T c → f p ≡ 0) → (beyond f (linked f n (f p)) (f p) ≡ 0) ⊎ (linked f n (f p) ≡ n)
        → (beyond f (if c then 1 else suc (linked f n (f p))) p ≡ 0) ⊎ ((if c then 1 else suc (linked f n (f p))) ≡ suc n)
    go true e r = inl (e tt)
    go false e (inl z) = inl z
    go false e (inr z) = inr (ap suc z)

few : (N aside : ℕ) (ps : List ℕ) → 2 ≤ aside → aside ≤ N → Nodup ps → ((q : ℕ) → Mem q ps → (aside ≤ q) × (q < N)) → length ps + 2 ≤ N
few N aside ps two le once h =
    let all : List ℕ = 0 ∷ 1 ∷ ps in
    let none : (x : ℕ) → x < 2 → occ x ps ≡ 0 = λ x l. not_mem x ps (λ m. omega (arith, (h x m).0)) in
    let u : Under N all = under_cons N 0 (1 ∷ ps) (omega arith) (under_cons N 1 ps (omega arith) (under_of_mem N ps (λ q m. (h q m).1))) in
    let each : (q : ℕ) → q < N → occ q all ≤ 1 = λ q l. elim (hit_cases q 0) [
      | inl e ↦ omega (arith, e.1, none q (omega (arith, e.0)), hit_ne q 1 (λ z. omega (arith, z, e.0)))
      | inr e ↦ elim (hit_cases q 1) [
        | inl d ↦ omega (arith, e.1, d.1, none q (omega (arith, d.0)))
        | inr d ↦ omega (arith, e.1, d.1, once q)
      ]
    ] in
    omega (arith, sum_occ all N u, sum_one (λ q. occ q all) N each)

tail_of : (ps : List ℕ) → Nodup ps → Nodup (tail ps) × (length ps ≤ suc (length (tail ps)))
tail_of [] u = (u, omega arith)
tail_of (p ∷ ps) u = (λ q. omega (arith, u q), omega arith)

pub chains_end : (g : Geometry) (home : ℕ → ℕ) (N : ℕ) (numbers : Numbers) (on : ℕ → List ℕ) (read : Bytes → ℕ → Entry) (placed : Bytes → (directory entry : ℕ) → ℕ × ℕ) → 2 ≤ g.aside → g.aside ≤ N
    → (b : Bytes) → Ending (seen (chained g home N numbers on read placed) b)
chains_end g home N numbers on read placed two le b p once h = elim (linked_ends (next g b) N p) [
  | inl z ↦ subst (λ (n : ℕ). T (eqb n 0)) (sym z) (eqb_refl 0)
  | inr full ↦
      let ps : List ℕ = linked_pages g home N numbers on read placed b p in
      let t = tail_of ps once in
      absurd (omega (arith, few N g.aside (tail ps) two le t.0 h, t.1, chain_length (next g b) (linked (next g b) N p) p, full))
]
