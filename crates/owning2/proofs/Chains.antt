-- A file's chain, of which some pages have passed: what is left is judged as all of it.
use mathlib.Core.Path.{◌≡◌, sym, ap, ◌∙◌}
use mathlib.Core.Logic.{◌≢◌}
use Prim.Native.Nat.{ℕ, suc, ◌+◌, ◌-◌, ◌≤◌, ◌<◌}
use native.Mathlib.Nat.{sub-zero}
use native.Mathlib.Numerals.{add-one}
use native.Mathlib.Omega.{arith}
use mathlib.Core.Bool.{Bool}
use mathlib.Core.List.{List}
use lib.ListN.{length}
use lib.Dec.{eqb}
use borrow.Author.Tests.{eq-eqb, ne_eqb}
use Rattle.volume.specs.Bytes.{Bytes}
use Rattle.std.specs.Prelude.{if◌then◌else◌}
use Rattle.volume.specs.Geometry as On
use Rattle.volume.proofs.Follow.{Lies}
use Rattle.model.specs.View.{View, next}
use Rattle.model.specs.Judge as Model
use Rattle.model.specs.Judge.{fault, clean, then_judge, judge_page, judge_chain, bad_chain}
use Rattle.model2.specs.Version2.{view2}
use Rattle.shape.specs.declared.Shape.{Shape}
use Rattle.shape.specs.Geometry.{geometry_of}
use Rattle.owning2.specs.Ready.{Ready}
use Rattle.owning2.proofs.Pages.{then_fault, then_clean, still, next_is, link_lies, page_here}

module _ (v : View) (d i k passed p : ℕ) (m : List ℕ) where
  chain_turn : passed < k → judge_chain v d i (k - passed) passed p m
      ≡ then_judge (judge_page v (bad_chain d i passed) p m) (judge_chain v d i (k - (passed + 1)) (passed + 1) (next v p))
  unfolding judge_chain
  chain_turn h =
      let e : k - passed ≡ suc (k - (passed + 1)) = omega arith in
      ap (λ (j : ℕ). judge_chain v d i j passed p m) e
      ∙ ap (λ (j : ℕ). then_judge (judge_page v (bad_chain d i passed) p m) (judge_chain v d i (k - (passed + 1)) j (next v p))) (sym (add-one passed))

  chain_end : k ≤ passed → judge_chain v d i (k - passed) passed p m ≡ (if eqb p 0 then clean m else fault (bad_chain d i passed))
  unfolding judge_chain
  chain_end h = let e : k - passed ≡ 0 = omega arith in ap (λ (j : ℕ). judge_chain v d i j passed p m) e

-- A chain of k pages from p₀ on, begun at the marks m₀, stands before page p at the marks m.
pub record Chained (b : Bytes) (s : Shape) (d i k p₀ : ℕ) (m₀ : List ℕ) (passed p : ℕ) (m : List ℕ) : Type 0 where
  pub most : passed ≤ k
  pub ready : Ready b s m
  pub long : length m ≡ length m₀
  pub comes : judge_chain (view2 b) d i k 0 p₀ m₀ ≡ judge_chain (view2 b) d i (k - passed) passed p m

pub chained_first : {b : Bytes} {s : Shape} {d i k p : ℕ} {m : List ℕ} → Ready b s m → Chained b s d i k p m 0 p m
chained_first {b} {s} {d} {i} {k} {p} {m} r = record {
  most = omega arith;
  ready = r;
  long = omega arith;
  comes = ap (λ (j : ℕ). judge_chain (view2 b) d i j 0 p m) (sym (sub-zero k));
}

module _ {b : Bytes} {s : Shape} {d i k p₀ passed p : ℕ} {m₀ m : List ℕ} (at : Chained b s d i k p₀ m₀ passed p m) where
  -- one turn: page p gets its owner, or has a fault
  pub chained_faulty : passed < k → {x : Model.Fault} → fault x ≡ judge_page (view2 b) (bad_chain d i passed) p m → fault x ≡ judge_chain (view2 b) d i k 0 p₀ m₀
  chained_faulty more page = sym (at.comes ∙ chain_turn (view2 b) d i k passed p m more ∙ then_fault _ page)

  module _ (l : List ℕ) (page : clean l ≡ judge_page (view2 b) (bad_chain d i passed) p m) where
    pub chained_link : Lies ((geometry_of s).link p) b
    chained_link = link_lies at.ready (page_here at.ready (bad_chain d i passed) p l page)

    pub chained_next : passed < k → length l ≡ length m → {to : ℕ} → to ≡ On.next (geometry_of s) b p → Chained b s d i k p₀ m₀ (passed + 1) to l
    chained_next more same to_is = record {
      most = omega arith;
      ready = still at.ready same;
      long = same ∙ at.long;
      comes = at.comes ∙ chain_turn (view2 b) d i k passed p m more ∙ then_clean _ page
          ∙ ap (λ (n : ℕ). judge_chain (view2 b) d i (k - (passed + 1)) (passed + 1) n l) (sym (to_is ∙ next_is at.ready p));
    }

  pub chained_last : k ≤ passed → p ≡ 0 → clean m ≡ judge_chain (view2 b) d i k 0 p₀ m₀
  chained_last h e =
      sym (at.comes ∙ chain_end (view2 b) d i k passed p m h ∙ ap (λ (c : Bool). if c then clean m else fault (bad_chain d i passed)) (eq-eqb p 0 e))

  pub chained_on : k ≤ passed → p ≢ 0 → fault (bad_chain d i k) ≡ judge_chain (view2 b) d i k 0 p₀ m₀
  chained_on h e =
      let all : k ≡ passed = omega (arith, at.most) in
      ap (λ (j : ℕ). fault (bad_chain d i j)) all
      ∙ sym (at.comes ∙ chain_end (view2 b) d i k passed p m h ∙ ap (λ (c : Bool). if c then clean m else fault (bad_chain d i passed)) (ne_eqb p 0 e))
