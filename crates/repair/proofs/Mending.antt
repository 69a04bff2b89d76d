-- The owner marks of a clean walk are the owned pages, so to set the bits by them is to repair.
use mathlib.Core.Path.{◌≡◌, refl, sym, ap, ◌∙◌, subst}
use mathlib.Core.Logic.{◌≢◌}
use Prim.Native.Nat.{ℕ}
use native.Mathlib.Omega.{arith}
use native.Mathlib.Decide.{ℕ_discrete}
use mathlib.Core.Bool.{Bool, true, false, not}
use mathlib.Core.List.{List}
use lib.ListN.{length, get_or}
use lib.Dec.{T, eqb}
use borrow.Author.Tests.{eqb-true, eqb-false}
use Rattle.volume.specs.Bytes.{Bytes}
use Rattle.volume.proofs.Occ.{occ}
use Rattle.model.specs.Layout.{version1, page_count, valid_length, valid_header}
use Rattle.model.specs.Sound.{owned_pages}
use Rattle.model.specs.Judge.{Fault, fault, clean, judge_walk}
use Rattle.model.specs.Call.{refusal, refused, granted}
use Rattle.model.specs.Meaning.{fault_told}
use Rattle.laws.proofs.Judged.{walk_clean}
use Rattle.repair.specs.Remark.{remarked, recounted}
use Rattle.repair.specs.Repair.{is_in_use, repaired, repair_answer, repair_after}
use Rattle.repair.proofs.Bits.{remarked_cong}
use Rattle.repair.proofs.Mended.{header_use, owned_use, in_use}
use Rattle.repair.proofs.Repairs.{of_not, repair_granted, by_length, by_header, by_fault}
use Rattle.repair.specs.Taken.{is_taken}
use Rattle.repair.proofs.Taken.{taken_header, taken_mark}

pub of_true : {c : Bool} → c ≡ true → T c
of_true e = subst (λ (x : Bool). T x) (sym e) tt

true_of : (c : Bool) → T c → true ≡ c
true_of true t = refl
true_of false t = absurd t

false_of : (c : Bool) → (T c → ⊥) → false ≡ c
false_of true h = absurd (h tt)
false_of false h = refl

-- a page has its mark exactly if it is in use
taken_use : (b : Bytes) (m : List ℕ) (q : ℕ) → get_or m q 0 ≡ occ q (owned_pages b) → is_taken m q ≡ is_in_use b q
taken_use b m q e = elim (ℕ_discrete q 0) [
  | yes z ↦ sym (taken_header m q z) ∙ true_of (is_in_use b q) (subst (λ (x : ℕ). T (is_in_use b x)) (sym z) (header_use b))
  | no ne ↦ sym (taken_mark m q ne) ∙ go (eqb (get_or m q 0) 0) refl ne
]
  where
    go : (c : Bool) → eqb (get_or m q 0) 0 ≡ c → q ≢ 0 → not c ≡ is_in_use b q
    go true u ne = false_of (is_in_use b q) (λ t. omega (arith, in_use b q (omega (arith, ne)) t, e, eqb-true (get_or m q 0) 0 u))
    go false u ne = true_of (is_in_use b q) (owned_use b q (omega (arith, e, eqb-false (get_or m q 0) 0 u)))

pub refused_length : (b : Bytes) → valid_length (length b) ≡ false → (refused (refusal 1) ≡ repair_answer b) × (b ≡ repair_after b)
unfolding repair_answer repair_after
refused_length b e = let h = of_not (valid_length (length b)) e in (sym (by_length b refused (granted tt) h), sym (by_length b (λ m. b) (repaired b) h))

pub refused_header : (b : Bytes) → valid_length (length b) ≡ true → valid_header b ≡ false → (refused (refusal 2) ≡ repair_answer b) × (b ≡ repair_after b)
unfolding repair_answer repair_after
refused_header b v e = let h = of_not (valid_header b) e in (sym (by_header b refused (granted tt) (of_true v) h), sym (by_header b (λ m. b) (repaired b) (of_true v) h))

module _ (b : Bytes) (v : valid_length (length b) ≡ true) (h : valid_header b ≡ true) where
  pub refused_walk : (f : Fault) → fault f ≡ judge_walk b → (refused (fault_told f) ≡ repair_answer b) × (b ≡ repair_after b)
  unfolding repair_answer repair_after
  refused_walk f e = (sym (by_fault b refused (granted tt) (of_true v) (of_true h) f (sym e)), sym (by_fault b (λ m. b) (repaired b) (of_true v) (of_true h) f (sym e)))

  pub granted_walk : (m : List ℕ) (x : Bytes) → clean m ≡ judge_walk b → length m ≡ page_count b
      → x ≡ recounted version1 (length m) (remarked version1 (is_taken m) (length m) b) → (granted tt ≡ repair_answer b) × (x ≡ repair_after b)
  unfolding repair_answer repair_after repaired
  granted_walk m x e l ex =
      let w = walk_clean b (sym e) in
      let same : remarked version1 (is_taken m) (page_count b) b ≡ remarked version1 (is_in_use b) (page_count b) b =
      remarked_cong version1 (is_taken m) (is_in_use b) (page_count b) b (λ q u. taken_use b m q (w.1 q u)) in (
        sym (repair_granted b (of_true v) (of_true h) w.0 refused (granted tt)),
        ex ∙ ap (λ (n : ℕ). recounted version1 n (remarked version1 (is_taken m) n b)) l ∙ ap (recounted version1 (page_count b)) same
            ∙ sym (repair_granted b (of_true v) (of_true h) w.0 (λ f. b) (repaired b)),
      )
