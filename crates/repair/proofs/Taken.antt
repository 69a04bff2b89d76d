-- One bit a turn is one step of `remarked`; the header's bit is set, so there are fewer zero bits than pages.
use mathlib.Core.Path.{◌≡◌, refl, sym, ap, ◌∙◌}
use mathlib.Core.Logic.{◌≢◌}
use Prim.Native.Nat.{ℕ, zero, suc, ◌+◌, ◌≤◌, ◌<◌}
use native.Mathlib.Numerals.{add-one}
use native.Mathlib.Omega.{arith}
use mathlib.Core.Bool.{Bool, true, false, not}
use mathlib.Core.List.{List}
use lib.ListN.{length, get_or, set}
use lib.Dec.{eqb}
use borrow.Author.Tests.{eq-eqb, ne_eqb}
use Rattle.volume.specs.Bytes.{Bytes}
use Rattle.std.specs.Prelude.{if◌then◌else◌}
use Rattle.volume.specs.Geometry as On
use Rattle.volume.proofs.Marks.{bit_low}
use Rattle.model.specs.Layout.{version1, page_bit, zero_bits}
use Rattle.repair.specs.Remark.{remarked, recounted}
use Rattle.repair.proofs.Bits.{remarked_bits}
use Rattle.repair.specs.Taken.{is_taken}

pub taken_header : (marks : List ℕ) (p : ℕ) → p ≡ 0 → true ≡ is_taken marks p
unfolding is_taken
taken_header marks p e = sym (ap (λ (c : Bool). if c then true else not (eqb (get_or marks p 0) 0)) (eq-eqb p 0 e))

pub taken_mark : (marks : List ℕ) (p : ℕ) → p ≢ 0 → not (eqb (get_or marks p 0) 0) ≡ is_taken marks p
unfolding is_taken
taken_mark marks p e = sym (ap (λ (c : Bool). if c then true else not (eqb (get_or marks p 0) 0)) (ne_eqb p 0 e))

pub when : {A : Type 0} (c : Bool) (x y z : A) → c ≡ true → z ≡ x → z ≡ (if c then x else y)
when {A} c x y z e h = h ∙ sym (ap (λ (d : Bool). if d then x else y) e)

pub unless : {A : Type 0} (c : Bool) (x y z : A) → c ≡ false → z ≡ y → z ≡ (if c then x else y)
unless {A} c x y z e h = h ∙ sym (ap (λ (d : Bool). if d then x else y) e)

pub remarked_none : (f : ℕ → Bool) (b : Bytes) → b ≡ remarked version1 f 0 b
unfolding remarked
remarked_none f b = refl

pub remarked_turn : (f : ℕ → Bool) (b x y : Bytes) (p : ℕ) (c : Bool) → x ≡ remarked version1 f p b → c ≡ f p
    → y ≡ (if c then On.mark version1 p x else On.unmark version1 p x) → y ≡ remarked version1 f (p + 1) b
unfolding remarked
remarked_turn f b x y p c ex ec ey =
    ey ∙ ap (λ (d : Bool). if d then On.mark version1 p x else On.unmark version1 p x) ec
    ∙ ap (λ (z : Bytes). if f p then On.mark version1 p z else On.unmark version1 p z) ex
    ∙ ap (λ (n : ℕ). remarked version1 f n b) (sym (add-one p))

zeros_few : (b : Bytes) (n : ℕ) → page_bit b 0 ≡ 1 → zero_bits b (suc n) ≤ n
unfolding On.zero_bits
zeros_few b zero e = omega (arith, e)
zeros_few b (suc n) e = omega (arith, zeros_few b n e, bit_low version1 b (suc n))

pub zeros_byte : (marks : List ℕ) (n : ℕ) (b : Bytes) → 1 ≤ n → n ≤ 256 → 36 ≤ length b → zero_bits (remarked version1 (is_taken marks) n b) n < 256
unfolding is_taken
zeros_byte marks zero b l u fit = absurd (omega arith)
zeros_byte marks (suc n) b l u fit =
    let one = (remarked_bits version1 (is_taken marks) (suc n) b (λ q k. omega (arith, fit)) 0 (omega arith)).yes tt in
    omega (arith, zeros_few (remarked version1 (is_taken marks) (suc n) b) n one)

-- ---- the end of the loop

module _ (marks : List ℕ) (b x : Bytes) (p n z : ℕ) (ex : x ≡ remarked version1 (is_taken marks) p b) (ep : p ≡ n) (en : n ≡ length marks) (ez : z ≡ zero_bits x n) where
  all_set : x ≡ remarked version1 (is_taken marks) (length marks) b
  all_set = ex ∙ ap (λ (k : ℕ). remarked version1 (is_taken marks) k b) (ep ∙ en)

  zeros_all : z ≡ zero_bits (remarked version1 (is_taken marks) (length marks) b) (length marks)
  zeros_all = ez ∙ ap (zero_bits x) en ∙ ap (λ (y : Bytes). zero_bits y (length marks)) all_set

  pub count_fits : 1 ≤ length marks → length marks ≤ 256 → 36 ≤ length b → z < 256
  count_fits l u fit = omega (arith, zeros_all, zeros_byte marks (length marks) b l u fit)

  pub count_stored : set x 3 z ≡ recounted version1 (length marks) (remarked version1 (is_taken marks) (length marks) b)
  unfolding recounted
  count_stored = ap (λ (y : Bytes). set y 3 z) all_set ∙ ap (set (remarked version1 (is_taken marks) (length marks) b) 3) zeros_all
