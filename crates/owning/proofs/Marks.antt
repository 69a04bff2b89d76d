-- A page that gets an owner had none, so one page fewer has none; a chain is owned page by page.
use mathlib.Core.Path.{◌≡◌, sym, ◌∙◌}
use mathlib.Core.Logic.{◌≢◌}
use Prim.Native.Nat.{ℕ, suc, ◌+◌, ◌*◌, ◌-◌, ◌≤◌, ◌<◌}
use native.Mathlib.Nat.{sub-zero}
use native.Mathlib.Numerals.{add-one}
use native.Mathlib.Omega.{arith}
use mathlib.Core.List.{List}
use lib.ListN.{length}
use lib.Dec.{eqb}
use borrow.Author.Tests.{eq-eqb, ne_eqb}
use Rattle.volume.specs.Bytes.{Bytes}
use Rattle.std.specs.Prelude.{if◌then◌else◌}
use Rattle.model.specs.Layout.{page_size, page_count, link}
use Rattle.model.specs.Version1.{view}
use Rattle.model.specs.Judge as Model
use Rattle.model.specs.Judge.{fault, clean, then_judge, judge_page, judge_chain, bad_chain}
use Rattle.view_laws.proofs.Comes as Comes
use Rattle.view_laws.proofs.Comes.{Made}
use Rattle.owning.specs.Marked.{Marked}

-- ---- one page

pub page_made : (b : Bytes) (range : Model.Fault) (p : ℕ) (m m' : List ℕ) → length m ≡ page_count b → clean m' ≡ judge_page (view b) range p m → Made m p m'
page_made b range p m m' each e = Comes.page_made (view b) (omega arith) range p m m' each e

-- ---- a chain, of which some pages have passed

-- What is left of a chain of k pages from p₀ on, begun at the marks m₀, is judged as all of it: it stands before page p at the marks m.
pub record Chained (b : Bytes) (d i k p₀ : ℕ) (m₀ : List ℕ) (passed p : ℕ) (m : List ℕ) : Type 0 where
  pub most : passed ≤ k
  pub each : length m ≡ page_count b
  pub comes : judge_chain (view b) d i k 0 p₀ m₀ ≡ judge_chain (view b) d i (k - passed) passed p m

pub chained_first : {b : Bytes} {d i k p : ℕ} {m : List ℕ} → Marked b m → Chained b d i k p m 0 p m
chained_first {k = k} marked = record { most = omega arith; each = marked.each; comes = rw (sub-zero k) }

module _ {b : Bytes} {d i k p₀ passed p : ℕ} {m₀ m : List ℕ} (at : Chained b d i k p₀ m₀ passed p m) where
  chain_next : passed < k → judge_chain (view b) d i k 0 p₀ m₀
      ≡ then_judge (judge_page (view b) (bad_chain d i passed) p m) (judge_chain (view b) d i (k - (passed + 1)) (passed + 1) (link b p))
  unfolding judge_chain
  chain_next h = let e : k - passed ≡ suc (k - (passed + 1)) = omega arith in at.comes ∙ rw (e, ← add-one passed)

  chain_end : k ≤ passed → judge_chain (view b) d i k 0 p₀ m₀ ≡ (if eqb p 0 then clean m else fault (bad_chain d i passed))
  unfolding judge_chain
  chain_end h = let e : k - passed ≡ 0 = omega arith in at.comes ∙ rw e

  -- one turn: page p gets its owner, or has a fault
  pub chained_faulty : passed < k → {x : Model.Fault} → fault x ≡ judge_page (view b) (bad_chain d i passed) p m → fault x ≡ judge_chain (view b) d i k 0 p₀ m₀
  unfolding then_judge
  chained_faulty more page = sym (chain_next more ∙ rw (← page))

  module _ (l : List ℕ) (page : clean l ≡ judge_page (view b) (bad_chain d i passed) p m) where
    pub chained_here : page_size * p < length b
    chained_here = let made = page_made b (bad_chain d i passed) p m l at.each page in let each = at.each in omega arith

    pub chained_next : passed < k → length l ≡ length m → {next : ℕ} → next ≡ link b p → Chained b d i k p₀ m₀ (passed + 1) next l
    unfolding then_judge
    chained_next more long follows =
        record { most = omega arith; each = long ∙ at.each; comes = chain_next more ∙ rw (← page, follows) }

  pub chained_last : k ≤ passed → p ≡ 0 → clean m ≡ judge_chain (view b) d i k 0 p₀ m₀
  chained_last h e = sym (chain_end h ∙ rw (eq-eqb _ _ e))

  pub chained_on : k ≤ passed → p ≢ 0 → fault (bad_chain d i passed) ≡ judge_chain (view b) d i k 0 p₀ m₀
  chained_on h e = sym (chain_end h ∙ rw (ne_eqb _ _ e))
