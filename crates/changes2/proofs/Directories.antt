-- Directories: all entries of a row are vacant if the first that is not is none; and the pages left of a directory with those passed are as many as it has.
use mathlib.Core.Path.{◌≡◌, refl, sym, ap, ◌∙◌, subst}
use mathlib.Core.Logic.{◌≢◌}
use Prim.Native.Nat.{ℕ, zero, suc, ◌+◌, ◌-◌, ◌≤◌, ◌<◌}
use native.Mathlib.Nat.{sub-zero}
use native.Mathlib.Omega.{arith}
use mathlib.Core.Bool.{Bool, true, false, not, ◌&&◌}
use mathlib.Core.Option.{none, some}
use mathlib.Core.List.{List, [], ◌∷◌}
use lib.Dec.{eqb}
use borrow.Author.Tests.{eq-eqb, ne_eqb}
use Rattle.volume.specs.Bytes.{Bytes}
use Rattle.std.specs.Prelude.{if◌then◌else◌}
use Rattle.volume.specs.Lists.{all, first}
use Rattle.volume.specs.Chain.{chain, beyond, linked}
use Rattle.volume.specs.Geometry as On
use Rattle.volume.specs.Geometry.{Geometry}
use Rattle.volume.proofs.Occ.{occ, Mem, mem_head, mem_tail, occ_append}
use Rattle.volume.proofs.Chains.{chain_snoc, last_in}
use Rattle.volume.proofs.Follow.{Inside, Lies}

-- ---- all pass if the first that does not is none

all_first : (f : ℕ → Bool) (xs : List ℕ)
    → (none ≡ first (λ x. not (f x)) xs → true ≡ all f xs) × ((at : ℕ) → some at ≡ first (λ x. not (f x)) xs → false ≡ all f xs)
unfolding all first
all_first f [] = (λ e. refl, λ at e. let z : ◌≡◌ {A = ℕ} 0 1 = cc in absurd (omega (arith, z)))
all_first f (x ∷ xs) = go (f x) (all_first f xs)
  where
    go : (c : Bool) → (none ≡ first (λ x. not (f x)) xs → true ≡ all f xs) × ((at : ℕ) → some at ≡ first (λ x. not (f x)) xs → false ≡ all f xs)
        → (none ≡ (if not c then some x else first (λ x. not (f x)) xs) → true ≡ (c && all f xs))
        × ((at : ℕ) → some at ≡ (if not c then some x else first (λ x. not (f x)) xs) → false ≡ (c && all f xs))
    go true rest = rest
    go false rest = (λ e. let z : ◌≡◌ {A = ℕ} 0 1 = cc in absurd (omega (arith, z)), λ at e. refl)

pub all_pass : (f : ℕ → Bool) (xs : List ℕ) → none ≡ first (λ x. not (f x)) xs → true ≡ all f xs
all_pass f xs e = (all_first f xs).0 e

pub one_fails : (f : ℕ → Bool) (xs : List ℕ) {at : ℕ} → some at ≡ first (λ x. not (f x)) xs → false ≡ all f xs
one_fails f xs {at} e = (all_first f xs).1 at e

-- ---- the pages of a directory, counted

module _ (next : ℕ → ℕ) where
  pub linked_last : (most p : ℕ) → 1 ≤ most → next p ≡ 0 → linked next most p ≡ 1
  unfolding linked
  linked_last zero p h e = absurd (omega arith)
  linked_last (suc most) p h e = rw (eq-eqb (next p) 0 e)

  pub linked_more : (most p : ℕ) → 1 ≤ most → next p ≢ 0 → linked next most p ≡ suc (linked next (most - 1) (next p))
  unfolding linked
  linked_more zero p h ne = absurd (omega arith)
  linked_more (suc most) p h ne =
      let m : suc most - 1 ≡ most = omega arith in
      ap (λ (c : Bool). if c then 1 else suc (linked next most (next p))) (ne_eqb (next p) 0 ne) ∙ ap (λ (k : ℕ). suc (linked next k (next p))) (sym m)

  pub linked_some : (most p : ℕ) → 1 ≤ most → 1 ≤ linked next most p
  unfolding linked
  linked_some zero p h = absurd (omega arith)
  linked_some (suc most) p h = go (eqb (next p) 0)
    where
      go : (c : Bool) → 1 ≤ (if c then 1 else suc (linked next most (next p)))
      go true = omega arith
      go false = omega arith

-- i pages are passed, and p is at hand
pub record Counting (g : Geometry) (b : Bytes) (n p₀ i p : ℕ) : Type 0 where
  pub low : i ≤ n
  pub pages : Inside g b (linked (On.next g b) (n - i) p) p
  pub same : i + linked (On.next g b) (n - i) p ≡ linked (On.next g b) n p₀

module _ {g : Geometry} {b : Bytes} {n p₀ : ℕ} where
  pub counting_first : Inside g b (linked (On.next g b) n p₀) p₀ → Counting g b n p₀ 0 p₀
  counting_first c = record {
    low = omega arith;
    pages = subst (λ (m : ℕ). Inside g b (linked (On.next g b) m p₀) p₀) (sym (sub-zero n)) c;
    same = ap (λ (m : ℕ). 0 + linked (On.next g b) m p₀) (sub-zero n) ∙ omega arith;
  }

  module _ {i p : ℕ} (r : Counting g b n p₀ i p) (h : i < n) where
    left : 1 ≤ n - i
    left = omega arith

    -- the page at hand lies in the image with its link
    pub counting_here : Lies (g.link p) b
    unfolding chain
    counting_here =
        let f : ℕ → ℕ = On.next g b in
        let k : linked f (n - i) p ≡ suc (linked f (n - i) p - 1) = omega (arith, linked_some f (n - i) p left) in
        (r.pages p (subst (λ (m : ℕ). Mem p (chain f m p)) (sym k) (mem_head p (chain f (linked f (n - i) p - 1) (f p))))).1

    pub counting_last : {q : ℕ} → q ≡ On.next g b p → q ≡ 0 → i + 1 ≡ linked (On.next g b) n p₀
    counting_last e z = omega (arith, linked_last (On.next g b) (n - i) p left (sym e ∙ z), r.same)

    pub counting_turn : {q : ℕ} → q ≡ On.next g b p → q ≢ 0 → Counting g b n p₀ (i + 1) q
    unfolding chain
    counting_turn {q} e ne =
        let f : ℕ → ℕ = On.next g b in
        let m : n - i - 1 ≡ n - (i + 1) = omega arith in
        let more : linked f (n - i) p ≡ suc (linked f (n - (i + 1)) q) =
        linked_more f (n - i) p left (λ z. ne (e ∙ z)) ∙ ap (λ (k : ℕ). suc (linked f k (f p))) m ∙ ap (λ (x : ℕ). suc (linked f (n - (i + 1)) x)) (sym e) in
        record {
          low = omega arith;
          pages = λ x k. r.pages x (subst (λ (j : ℕ). Mem x (chain f j p)) (sym more)
              (mem_tail x p (chain f (linked f (n - (i + 1)) q) (f p)) (subst (λ (y : ℕ). Mem x (chain f (linked f (n - (i + 1)) q) y)) e k)));
          same = omega (arith, more, r.same);
        }

  pub counting_all : {i p : ℕ} → Counting g b n p₀ i p → n ≤ i → n ≡ linked (On.next g b) n p₀
  unfolding linked
  counting_all {i} {p} r h = let z : n - i ≡ 0 = omega arith in omega (arith, r.low, r.same, ap (λ (k : ℕ). linked (On.next g b) k p) z)

-- ---- the last page of a chain

module _ (g : Geometry) (b : Bytes) (start k : ℕ) (some : 1 ≤ k) (inside : Inside g b k start) where
  whole : k ≡ suc (k - 1)
  whole = omega arith

  pub inside_before : Inside g b (k - 1) start
  inside_before q m =
      let ps = chain (On.next g b) (k - 1) start in
      let last = beyond (On.next g b) (k - 1) start in
      inside q (subst (λ (j : ℕ). Mem q (chain (On.next g b) j start)) (sym whole)
      (omega (arith, m, ap (λ (xs : List ℕ). occ q xs) (chain_snoc (On.next g b) (k - 1) start), occ_append q ps (last ∷ []))))

  pub inside_last : {p : ℕ} → p ≡ beyond (On.next g b) (k - 1) start → Lies (g.link p) b
  inside_last {p} e =
      let last : ℕ = beyond (On.next g b) (k - 1) start in
      let m : Mem last (chain (On.next g b) (suc (k - 1)) start) = last_in (On.next g b) (k - 1) start in
      subst (λ (q : ℕ). Lies (g.link q) b) (sym e) (inside last (subst (λ (j : ℕ). Mem last (chain (On.next g b) j start)) (sym whole) m)).1
