-- The pages of a directory get their owner one after the other: what is left of them is judged as all of them.
use mathlib.Core.Path.{◌≡◌, sym, ap, ◌∙◌}
use mathlib.Core.Logic.{◌≢◌}
use Prim.Native.Nat.{ℕ, suc, ◌+◌, ◌-◌, ◌≤◌, ◌<◌}
use native.Mathlib.Nat.{sub-zero}
use native.Mathlib.Numerals.{add-one}
use native.Mathlib.Omega.{arith}
use native.Mathlib.Decide.{ℕ_discrete}
use mathlib.Core.Bool.{Bool}
use mathlib.Core.List.{List, [], ◌∷◌, tail}
use lib.ListN.{length}
use borrow.Author.Tests.{ne_eqb}
use Rattle.volume.specs.Bytes.{Bytes}
use Rattle.std.specs.Prelude.{if◌then◌else◌}
use Rattle.volume.specs.Chain.{chain, linked}
use Rattle.volume.specs.Geometry as On
use Rattle.volume.proofs.Follow.{Lies}
use Rattle.model.specs.View.{View}
use Rattle.model.specs.Judge as Model
use Rattle.model.specs.Judge.{Judged, fault, clean, then_judge, judge_page, judge_pages, bad_chain}
use Rattle.model2.specs.Version2.{linked_pages, view2}
use Rattle.shape.specs.declared.Shape.{Shape}
use Rattle.shape.specs.Geometry.{geometry_of}
use Rattle.cursor2.specs.Row.{behind}
use Rattle.cursor2.proofs.Turns.{pages_first, behind_end}
use Rattle.owning2.specs.Ready.{Ready, follows}
use Rattle.owning2.proofs.Pages.{then_fault, then_clean, still, next_is, link_lies, some_page, page_here}

-- ---- pages by their links

module _ (next : ℕ → ℕ) where
  behind_on : (left p : ℕ) → next p ≢ 0 → behind next left p ≡ linked_pages next left (next p)
  unfolding behind
  behind_on left p ne = ap (λ (c : Bool). if c then [] else linked_pages next left (next p)) (ne_eqb (next p) 0 ne)

  root_behind : (n : ℕ) → 1 ≤ n → tail (linked_pages next n 0) ≡ behind next (n - 1) 0
  root_behind n h =
      let l : n ≡ suc (n - 1) = omega arith in
      ap (λ (k : ℕ). tail (linked_pages next k 0)) l ∙ ap (λ (ps : List ℕ). tail ps) (pages_first next (n - 1) 0)

  module _ (v : View) (d e i : ℕ) (m : List ℕ) where
    pages_end : (left p : ℕ) → next p ≡ 0 → judge_pages v d e i (linked_pages next (suc left) p) clean m ≡ then_judge (judge_page v (bad_chain d e i) p m) clean
    pages_end left p z =
        ap (λ (ps : List ℕ). judge_pages v d e i ps clean m) (pages_first next left p ∙ ap (λ (ps : List ℕ). p ∷ ps) (behind_end next left p z))

    pages_on : (left p : ℕ) → next p ≢ 0 → judge_pages v d e i (linked_pages next (suc left) p) clean m
        ≡ then_judge (judge_page v (bad_chain d e i) p m) (judge_pages v d e (suc i) (linked_pages next left (next p)) clean)
    pages_on left p ne =
        ap (λ (ps : List ℕ). judge_pages v d e i ps clean m) (pages_first next left p ∙ ap (λ (ps : List ℕ). p ∷ ps) (behind_on left p ne))

-- ---- the pages from `start` on, at most N, of which i have passed

pub record Owning (b : Bytes) (s : Shape) (d e N start : ℕ) (m₀ : List ℕ) (i p : ℕ) (m : List ℕ) : Type 0 where
  pub low : i ≤ N
  pub ready : Ready b s m
  pub long : length m ≡ length m₀
  pub same : judge_pages (view2 b) d e i (linked_pages (follows b) (N - i) p) clean m ≡ judge_pages (view2 b) d e 0 (linked_pages (follows b) N start) clean m₀

module _ {b : Bytes} {s : Shape} {d e N start : ℕ} {m₀ : List ℕ} where
  pub owning_first : Ready b s m₀ → Owning b s d e N start m₀ 0 start m₀
  owning_first r = record {
    low = omega arith;
    ready = r;
    long = omega arith;
    same = ap (λ (k : ℕ). judge_pages (view2 b) d e 0 (linked_pages (follows b) k start) clean m₀) (sub-zero N);
  }

  module _ {i p : ℕ} {m : List ℕ} (o : Owning b s d e N start m₀ i p m) where
    pub owning_none : N ≤ i → clean m ≡ judge_pages (view2 b) d e 0 (linked_pages (follows b) N start) clean m₀
    unfolding linked chain
    owning_none h = let z : 0 ≡ N - i = omega arith in ap (λ (k : ℕ). judge_pages (view2 b) d e i (linked_pages (follows b) k p) clean m) z ∙ o.same

    more : i < N → judge_pages (view2 b) d e i (linked_pages (follows b) (suc (N - (i + 1))) p) clean m ≡ judge_pages (view2 b) d e 0 (linked_pages (follows b) N start) clean m₀
    more h = let z : suc (N - (i + 1)) ≡ N - i = omega arith in ap (λ (k : ℕ). judge_pages (view2 b) d e i (linked_pages (follows b) k p) clean m) z ∙ o.same

    -- one turn: page p gets its owner, or has a fault
    pub owning_faulty : i < N → {x : Model.Fault} → fault x ≡ judge_page (view2 b) (bad_chain d e i) p m
        → fault x ≡ judge_pages (view2 b) d e 0 (linked_pages (follows b) N start) clean m₀
    owning_faulty h page = elim (ℕ_discrete (follows b p) 0) [
      | yes z ↦ sym (then_fault _ page) ∙ sym (pages_end (follows b) (view2 b) d e i m (N - (i + 1)) p z) ∙ more h
      | no z ↦ sym (then_fault _ page) ∙ sym (pages_on (follows b) (view2 b) d e i m (N - (i + 1)) p z) ∙ more h
    ]

    module _ (l : List ℕ) (page : clean l ≡ judge_page (view2 b) (bad_chain d e i) p m) where
      pub owning_link : Lies ((geometry_of s).link p) b
      owning_link = link_lies o.ready (page_here o.ready (bad_chain d e i) p l page)

      module _ (h : i < N) (to : ℕ) (to_is : to ≡ On.next (geometry_of s) b p) where
        pub owning_end : to ≡ 0 → clean l ≡ judge_pages (view2 b) d e 0 (linked_pages (follows b) N start) clean m₀
        owning_end z =
            sym (then_clean (λ (ms : List ℕ). clean ms) page)
            ∙ sym (pages_end (follows b) (view2 b) d e i m (N - (i + 1)) p (sym (to_is ∙ next_is o.ready p) ∙ z)) ∙ more h

        pub owning_next : to ≢ 0 → length l ≡ length m → Owning b s d e N start m₀ (i + 1) to l
        owning_next ne same-long =
            let here = to_is ∙ next_is o.ready p in
            record {
              low = omega arith;
              ready = still o.ready same-long;
              long = same-long ∙ o.long;
              same = ap (λ (x : ℕ). judge_pages (view2 b) d e (i + 1) (linked_pages (follows b) (N - (i + 1)) x) clean l) here
                  ∙ ap (λ (x : ℕ). judge_pages (view2 b) d e x (linked_pages (follows b) (N - (i + 1)) (follows b p)) clean l) (add-one i)
                  ∙ sym (then_clean (judge_pages (view2 b) d e (suc i) (linked_pages (follows b) (N - (i + 1)) (follows b p)) clean) page)
                  ∙ sym (pages_on (follows b) (view2 b) d e i m (N - (i + 1)) p (λ z. ne (here ∙ z))) ∙ more h;
            }

-- ---- all pages of a directory, and those of the root after page 0

module _ {b : Bytes} {s : Shape} {m : List ℕ} (r : Ready b s m) where
  pub all_pages : (d e p : ℕ) (j : Judged) → j ≡ judge_pages (view2 b) d e 0 (linked_pages (follows b) (length m) p) clean m
      → j ≡ judge_pages (view2 b) d e 0 ((view2 b).directory_pages p) clean m
  all_pages d e p j h = h ∙ ap (λ (k : ℕ). judge_pages (view2 b) d e 0 (linked_pages (follows b) k p) clean m) r.each

  root_pages : (ps : List ℕ) → behind (follows b) (length m - 1) 0 ≡ ps
      → judge_pages (view2 b) 0 255 0 ps clean m ≡ judge_pages (view2 b) 0 255 0 (tail ((view2 b).directory_pages 0)) clean m
  root_pages ps z = sym (ap (λ (k : ℕ). judge_pages (view2 b) 0 255 0 (tail (linked_pages (follows b) k 0)) clean m) (sym r.each)
      ∙ ap (λ (qs : List ℕ). judge_pages (view2 b) 0 255 0 qs clean m) (root_behind (follows b) (length m) (omega (arith, some_page r)) ∙ z))

  module _ (to : ℕ) (to_is : to ≡ On.next (geometry_of s) b 0) where
    pub root_alone : to ≡ 0 → clean m ≡ judge_pages (view2 b) 0 255 0 (tail ((view2 b).directory_pages 0)) clean m
    root_alone z = root_pages [] (behind_end (follows b) (length m - 1) 0 (sym (to_is ∙ next_is r 0) ∙ z))

    pub root_more : to ≢ 0 → (j : Judged) → j ≡ judge_pages (view2 b) 0 255 0 (linked_pages (follows b) (length m - 1) to) clean m
        → j ≡ judge_pages (view2 b) 0 255 0 (tail ((view2 b).directory_pages 0)) clean m
    root_more ne j h =
        let here = to_is ∙ next_is r 0 in
        h ∙ ap (λ (x : ℕ). judge_pages (view2 b) 0 255 0 (linked_pages (follows b) (length m - 1) x) clean m) here
        ∙ root_pages (linked_pages (follows b) (length m - 1) (follows b 0)) (behind_on (follows b) (length m - 1) 0 (λ z. ne (here ∙ z)))
