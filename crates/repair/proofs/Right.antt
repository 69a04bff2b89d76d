-- Pages whose bits are right already are passed over: to set such a bit changes nothing. An owned page has its bit, so where no bit is set no page
-- has an owner.
use mathlib.Core.Path.{◌≡◌, refl, sym, ap, ◌∙◌, subst}
use mathlib.Core.Logic.{◌≢◌}
use Prim.Native.Nat.{ℕ, zero, suc, ◌+◌, ◌-◌, ◌*◌, ◌/◌, ◌%◌, ◌≤◌, ◌<◌, min, max}
use native.Mathlib.Nat.{add-zero}
use native.Mathlib.Omega.{arith}
use native.Mathlib.Decide.{ℕ_discrete}
use mathlib.Core.Bool.{Bool, true, false, not}
use mathlib.Core.List.{List}
use lib.ListN.{length, get_or}
use borrow.Author.Tests.{eq-eqb, ne_eqb}
use Rattle.volume.specs.Bytes.{Bytes}
use Rattle.std.specs.Prelude.{if◌then◌else◌}
use Rattle.volume.specs.Geometry as On
use Rattle.model.specs.Layout.{version1, page_count, page_bit}
use Rattle.model.specs.Judge.{clean, judge_walk}
use Rattle.laws.proofs.Judged.{walk_clean}
use Rattle.bitmap.specs.Words.{Clear}
use Rattle.repair.specs.Remark.{remarked}
use Rattle.repair.specs.Taken.{is_taken, Shown, Right}
use Rattle.repair.proofs.Bits.{Says, set_again, set_other, remarked_length}
use Rattle.repair.proofs.Taken.{taken_mark, remarked_none, remarked_turn}

-- ---- what is seen of the pages from p on

pub right_none : (b : Bytes) (marks : List ℕ) (p : ℕ) → Right b marks p 0
right_none b marks p = record { each = λ q l h k. absurd (omega arith) }

module _ (b : Bytes) (marks : List ℕ) (p : ℕ) (shown : Shown b marks p) (some : p ≢ 0) where
  pub right_owned : p < length marks → get_or marks p 0 ≢ 0 → Right b marks p 1
  right_owned h owned = record { each = λ q l k m. let e : p ≡ q = omega arith in subst (λ (x : ℕ). page_bit b x ≡ (if is_taken marks x then 1 else 0)) e here }
    where
      here : page_bit b p ≡ (if is_taken marks p then 1 else 0)
      here = shown.each p (omega arith) h owned
          ∙ ap (λ (c : Bool). if c then 1 else 0) (sym (ap not (ne_eqb (get_or marks p 0) 0 owned)) ∙ taken_mark marks p some)

  -- page q has the bit 0, so it has no owner
  right_free : (q : ℕ) → p ≤ q → q < length marks → page_bit b q ≡ 0 → page_bit b q ≡ (if is_taken marks q then 1 else 0)
  right_free q l m e = elim (ℕ_discrete (get_or marks q 0) 0) [
    | yes z ↦ e ∙ ap (λ (c : Bool). if c then 1 else 0) (sym (ap not (eq-eqb (get_or marks q 0) 0 z)) ∙ taken_mark marks q (λ (o : q ≡ 0). some (omega arith)))
    | no n ↦ absurd (omega (arith, e, shown.each q l m n))
  ]

  pub right_clear : (c byte : ℕ) → byte ≡ p / 8 → p % 8 ≡ 0 → Clear b byte c → Right b marks p (8 * c)
  right_clear c byte e w clear = record { each = λ q l k m. right_free q l m (clear.each q (omega arith) (omega arith)) }

-- ---- the loop

module _ (f : ℕ → Bool) (b : Bytes) where
  -- bits of later pages are as they were
  later : (n q : ℕ) → n ≤ q → ((k : ℕ) → k < n → 4 + k / 8 < length b) → page_bit (remarked version1 f n b) q ≡ page_bit b q
  unfolding remarked
  later zero q l fits = refl
  later (suc n) q l fits =
      let fit : 4 + n / 8 < length (remarked version1 f n b) = omega (arith, remarked_length version1 f n b, fits n (omega arith)) in
      set_other version1 (f n) (remarked version1 f n b) n q fit (λ e. omega (arith, e)) ∙ later n q (omega arith) (λ k h. fits k (omega arith))

  says : (c : Bool) (bit : ℕ) → bit ≡ (if c then 1 else 0) → Says version1 c bit
  says true bit e = record { yes = λ t. e; no = λ t. absurd t }
  says false bit e = record { yes = λ t. absurd t; no = λ t. e }

  -- k pages from p on whose bits are right
  passed : (k p : ℕ) (x : Bytes) → x ≡ remarked version1 f p b → ((q : ℕ) → p ≤ q → q < p + k → page_bit x q ≡ (if f q then 1 else 0)) → x ≡ remarked version1 f (p + k) b
  unfolding remarked
  passed zero p x e h = e ∙ ap (λ (n : ℕ). remarked version1 f n b) (sym (add-zero p))
  passed (suc k) p x e h =
      let next : suc p + k ≡ p + suc k = omega arith in
      let here : x ≡ remarked version1 f (suc p) b =
      sym (set_again version1 (f p) p x (says (f p) (page_bit x p) (h p (omega arith) (omega arith))))
      ∙ ap (λ (y : Bytes). if f p then On.mark version1 p y else On.unmark version1 p y) e in
      passed k (suc p) x here (λ q l m. h q (omega arith) (omega arith)) ∙ ap (λ (n : ℕ). remarked version1 f n b) next

pub none_yet : (f : ℕ → Bool) (b : Bytes) (n : ℕ) → b ≡ remarked version1 f (min 0 n) b
none_yet f b n = let e : min 0 n ≡ 0 = omega arith in remarked_none f b ∙ ap (λ (k : ℕ). remarked version1 f k b) (sym e)

module _ (marks : List ℕ) (b x : Bytes) (p n : ℕ) (so_far : x ≡ remarked version1 (is_taken marks) (min p n) b) (more : p < n) where
  come : x ≡ remarked version1 (is_taken marks) p b
  come = let e : min p n ≡ p = omega arith in so_far ∙ ap (λ (k : ℕ). remarked version1 (is_taken marks) k b) e

  pub still_shown : n ≡ length marks → length marks ≤ 256 → 36 ≤ length b → Shown b marks 0 → Shown x marks p
  still_shown en few fit shown = record {
    each = λ q l h m. ap (λ (y : Bytes). page_bit y q) come ∙ later (is_taken marks) b p q l (λ k u. omega arith) ∙ shown.each q (omega arith) h m;
  }

  pub right_on : n ≡ length marks → (right step : ℕ) → Right x marks p right → right ≢ 0 → step ≡ max right 1 → x ≡ remarked version1 (is_taken marks) (min (p + step) n) b
  right_on en right step r some e =
      let end : p + (min (p + right) n - p) ≡ min (p + step) n = omega (arith, some) in
      passed (is_taken marks) b (min (p + right) n - p) p x come (λ q l m. r.each q l (omega arith) (omega arith)) ∙ ap (λ (k : ℕ). remarked version1 (is_taken marks) k b) end

  pub set_on : (y : Bytes) (c : Bool) → c ≡ is_taken marks p → y ≡ (if c then On.mark version1 p x else On.unmark version1 p x)
      → (right step : ℕ) → right ≡ 0 → step ≡ max right 1 → y ≡ remarked version1 (is_taken marks) (min (p + step) n) b
  set_on y c ec ey right step z e =
      let end : p + 1 ≡ min (p + step) n = omega arith in
      remarked_turn (is_taken marks) b x y p c come ec ey ∙ ap (λ (k : ℕ). remarked version1 (is_taken marks) k b) end

-- the marks of a clean walk
pub walk_shown : (b : Bytes) (m : List ℕ) → clean m ≡ judge_walk b → length m ≡ page_count b → Shown b m 0
walk_shown b m e long =
    let w = walk_clean b (sym e) in
    record { each = λ q l h k. w.0.marked q (omega (arith, k, w.1 q (omega arith))) }
