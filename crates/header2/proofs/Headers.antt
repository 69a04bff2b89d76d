-- The lines 1, 2 and 26 in their order, each by the test of the code that asks it; and what a header that passed them says of length and page code.
use mathlib.Core.Path.{◌≡◌, sym, ap, ◌∙◌, subst}
use mathlib.Core.Logic.{◌≢◌}
use Prim.Native.Nat.{ℕ, ◌/◌, ◌%◌, ◌≤◌}
use mathlib.Core.Bool.{Bool, true, false, not}
use mathlib.Core.Option.{Option, none, some}
use lib.ListN.{length}
use lib.Dec.{T, eqb, leb, leb→le}
use borrow.Author.Tests.{eq-eqb, ne_eqb}
use native.Mathlib.Omega.{arith}
use Rattle.volume.specs.Bytes.{Bytes}
use Rattle.std.specs.Prelude.{if◌then◌else◌}
use Rattle.volume.specs.Lists.{all}
use Rattle.volume.specs.Field.{pair, load}
use Rattle.volume.proofs.Tests.{conditions_cons}
use Rattle.model.specs.Call.{Refusal, refusal}
use Rattle.model.specs.RefusalOf.{settle, Passes}
use Rattle.model2.specs.Layout.{page_count, geometry2, valid_length, is_version2, fit_code, fit_header, code_in, header_lines}
use Rattle.laws2.proofs.Bounds.{Allowed}
use Rattle.shape.specs.declared.Shape.{Shape}
use Rattle.shape.specs.Geometry.{geometry_of}
use Rattle.fields.proofs.Plain.{told, untold}

-- ---- what the tests say in numbers

pub long_enough : {n : ℕ} {valid : Bool} → valid ≡ valid_length n → not valid ≡ false → 2048 ≤ n
unfolding valid_length
long_enough {n} long t =
    let x = conditions_cons (eqb (n % 2048) 0) _ (subst T (sym (told long t)) tt) in
    leb→le 2048 n (conditions_cons (leb 2048 n) _ x.1).0

pub code_low : {code : ℕ} (n : ℕ) {fits : Bool} → fits ≡ fit_code code n → not fits ≡ false → code ≤ 2
unfolding fit_code
code_low {code} n fit e = leb→le code 2 (conditions_cons (leb code 2) _ (subst T (sym (told fit e)) tt)).0

-- ---- the lines

-- what is read with a code that stands in byte 6 is read with the image's own
pub by_own_code : (b : Bytes) (s : Shape) (pages code : ℕ) → code ≡ code_in b
    → (geometry_of s ≡ geometry2 code (length b)) × (pages ≡ page_count code (length b))
    → (geometry_of s ≡ geometry2 (code_in b) (length b)) × (pages ≡ page_count (code_in b) (length b))
by_own_code b s pages code e h = subst (λ (c : ℕ). (geometry_of s ≡ geometry2 c (length b)) × (pages ≡ page_count c (length b))) e h

module _ (b : Bytes) (valid : Bool) (long : valid ≡ valid_length (length b)) where
  pub wrong_length : not valid ≡ true → some (refusal 1) ≡ settle (header_lines b) some none
  unfolding settle
  wrong_length t = rw (untold long t)

  module _ (t : not valid ≡ false) (second : Bool) (version : second ≡ is_version2 b) where
    pub wrong_version : not second ≡ true → some (refusal 2) ≡ settle (header_lines b) some none
    unfolding settle
    wrong_version h = rw (told long t, untold version h)

    module _ (h : not second ≡ false) (code : ℕ) (own : code ≡ code_in b) (fits : Bool) (fit : fits ≡ fit_code code (length b)) where
      fit_is : (r : Bool) → fit_code code (length b) ≡ r → fit_code (code_in b) (length b) ≡ r
      fit_is r e = ap (λ (c : ℕ). fit_code c (length b)) (sym own) ∙ e

      pub wrong_code : not fits ≡ true → some (refusal 26) ≡ settle (header_lines b) some none
      unfolding settle fit_header all
      wrong_code e = rw (told long t, told version h, fit_is false (untold fit e))

      module _ (e : not fits ≡ false) (pages : ℕ) (counted : pages ≡ page_count code (length b)) (map : ℕ) (stands : map ≡ load (pair 2) b) where
        eighth : pages / 8 ≡ page_count (code_in b) (length b) / 8
        eighth = ap (λ (n : ℕ). n / 8) counted ∙ ap (λ (c : ℕ). page_count c (length b) / 8) own

        pub wrong_map : map ≢ pages / 8 → some (refusal 26) ≡ settle (header_lines b) some none
        unfolding settle fit_header all
        wrong_map ne =
            let f : eqb (load (pair 2) b) (page_count (code_in b) (length b) / 8) ≡ false = ne_eqb _ _ (λ z. ne (stands ∙ z ∙ sym eighth)) in
            rw (told long t, told version h, fit_is true (told fit e), f)

        pub right_header : map ≡ pages / 8 → none ≡ settle (header_lines b) some none
        unfolding settle fit_header all
        right_header m =
            let f : eqb (load (pair 2) b) (page_count (code_in b) (length b) / 8) ≡ true = eq-eqb _ _ (sym stands ∙ m ∙ eighth) in
            rw (told long t, told version h, fit_is true (told fit e), f)

-- ---- lines that were passed

line_passed : (c : Bool) (x : Refusal) (rest : Option Refusal) → (if not c then some x else rest) ≡ none → T c × (rest ≡ none)
line_passed true x rest e = (tt, e)
line_passed false x rest e = let z : ◌≡◌ {A = ℕ} 0 1 = cc in absurd (omega arith)

pub allowed : (b : Bytes) → Passes (header_lines b) → Allowed (code_in b) (length b)
unfolding settle fit_header
allowed b e =
    let one = line_passed (valid_length (length b)) _ _ e in
    let two = line_passed (is_version2 b) _ _ one.1 in
    let last = line_passed (fit_header b) _ _ two.1 in
    record { length = one.0; fit = (conditions_cons (fit_code (code_in b) (length b)) _ last.0).0 }
