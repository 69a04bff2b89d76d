-- The walk begins with a mark of 0 for each page of an image of an allowed length, so fuel for all its pages but the header is enough.
use mathlib.Core.Path.{◌≡◌, refl, sym, ap, subst, ◌∙◌}
use Prim.Native.Nat.{ℕ, zero, suc, ◌%◌, ◌≤◌}
use native.Mathlib.Omega.{arith}
use mathlib.Core.Bool.{Bool, true, false, not}
use mathlib.Core.List.{List, [], ◌∷◌}
use lib.ListN.{length, take, replicate, length-replicate}
use lib.Dec.{T, eqb, leb, leb→le}
use Rattle.volume.specs.Bytes.{Bytes}
use Rattle.volume.proofs.Tests.{conditions_cons}
use Rattle.model.specs.Layout.{page_count, valid_length, valid_header, free_count}
use Rattle.model.specs.Version1.{view}
use Rattle.model.specs.Judge.{Fault, Judged, fault, clean, then_judge, judge_directory, judge_rest, judge_walk, judge, judge_view}
use Rattle.view_laws.specs.Marks.{unowned}
use Rattle.view_laws.proofs.Comes.{unowned_all}
use Rattle.model.specs.Call.{refusal, refused, granted}
use Rattle.model.specs.Meaning.{fault_told}
use Rattle.judge.specs.Answers.{concluded, judged_as}
use Rattle.owning.specs.Marked.{Marked}
use Rattle.fields.proofs.Plain.{told, untold}

-- ---- the length

pub allowed : (n : ℕ) → valid_length n ≡ true → (2048 ≤ n) × (n ≤ 65536)
unfolding valid_length
allowed n e =
    let x = conditions_cons (eqb (n % 2048) 0) (leb 2048 n ∷ leb n 65536 ∷ []) (subst T (sym e) tt) in
    let y = conditions_cons (leb 2048 n) (leb n 65536 ∷ []) x.1 in
    let z = conditions_cons (leb n 65536) [] y.1 in
    (leb→le 2048 n y.0, leb→le n 65536 z.0)

pub long_enough : {k n : ℕ} {valid : Bool} → valid ≡ valid_length n → not valid ≡ false → k ≤ 2048 → k ≤ n
long_enough {n = n} long t h = let e = allowed n (told long t) in omega arith

-- ---- the marks at the beginning

pub take_zeros : (n k : ℕ) → n ≤ k → take {A = ℕ} n (replicate k 0) ≡ replicate n 0
take_zeros zero k h = refl
take_zeros (suc n) zero h = absurd (omega arith)
take_zeros (suc n) (suc k) h = ap (λ (l : List ℕ). 0 ∷ l) (take_zeros n k (omega arith))

-- the first n of the 256 marks, for the n pages of an image
module _ (b : Bytes) (n : ℕ) (pages : n ≡ page_count b) (valid : valid_length (length b) ≡ true) where
  pub few : n ≤ 256
  few = let h = allowed (length b) valid in omega arith

  pub marks_length : n ≡ length (take {A = ℕ} n (replicate 256 0))
  marks_length = sym (ap length (take_zeros n 256 few) ∙ length-replicate {A = ℕ} n 0)

  pub marks_fresh : Marked b (take {A = ℕ} n (replicate 256 0)) × (take {A = ℕ} n (replicate 256 0) ≡ replicate (page_count b) 0)
  marks_fresh =
      let h = allowed (length b) valid in
      let e = marks_length in
      (record { each = sym e ∙ pages; low = omega arith; high = omega arith }, take_zeros n 256 few ∙ ap (λ (k : ℕ). replicate k 0) pages)

-- ---- the whole walk

-- j is what the judge of the root came to, from marks of no owner
pub judge_root : (b : Bytes) (m : List ℕ) (j : Judged) → 1 ≤ page_count b → m ≡ replicate (page_count b) 0
    → ((f : ℕ) → unowned m ≤ f → j ≡ judge_directory (suc f) (view b) 0 m) → j ≡ judge_directory (page_count b) (view b) 0 (replicate (page_count b) 0)
judge_root b m j low start post = go (page_count b) low start
  where
    go : (n : ℕ) → 1 ≤ n → m ≡ replicate n 0 → j ≡ judge_directory n (view b) 0 (replicate n 0)
    go zero l e = absurd (omega arith)
    go (suc n) l e = let u = ap unowned e ∙ unowned_all n in post n (omega arith) ∙ ap (judge_directory (suc n) (view b) 0) e

-- a walk that ended clean is followed by the rest, and one that did not is all
module _ (b : Bytes) where
  pub walk_faulty : {x : Fault} → fault x ≡ judge_walk b → fault x ≡ judge b
  unfolding judge_view then_judge
  walk_faulty walked = rw (← walked)

  pub walk_clean : (m : List ℕ) → clean m ≡ judge_walk b → (j : Judged) → j ≡ judge_rest (view b) m → j ≡ judge b
  unfolding judge_view then_judge
  walk_clean m walked j rest = rw (← walked) rest

-- ---- what any bytes are found to be

module _ (b : Bytes) (valid : Bool) (long : valid ≡ valid_length (length b)) where
  pub found_length : not valid ≡ true → refused (refusal 1) ≡ judged_as b
  unfolding judged_as
  found_length t = rw (untold long t)

  module _ (t : not valid ≡ false) (right : Bool) (header : right ≡ valid_header b) where
    pub found_header : not right ≡ true → refused (refusal 2) ≡ judged_as b
    unfolding judged_as
    found_header h = rw (told long t, untold header h)

    module _ (h : not right ≡ false) where
      pub found_fault : {x : Fault} → fault x ≡ judge b → refused (fault_told x) ≡ judged_as b
      unfolding judged_as concluded
      found_fault judged = rw (told long t, told header h, ← judged)

      pub found_sound : (m : List ℕ) → clean m ≡ judge b → (n free : ℕ) → n ≡ page_count b → free ≡ free_count b
          → granted (record { pages = n; free = free }) ≡ judged_as b
      unfolding judged_as concluded
      found_sound m judged n free pages count = rw (told long t, told header h, ← judged, pages, count)
