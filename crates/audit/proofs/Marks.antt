-- The row at the start, and what the tests in their order say.
use mathlib.Core.Path.{◌≡◌, refl, sym, ap, ◌∙◌, subst}
use Prim.Native.Nat.{ℕ, zero, suc, ◌+◌, ◌-◌, ◌%◌, ◌≤◌}
use native.Mathlib.Omega.{arith}
use mathlib.Core.Bool.{Bool, true, false, not}
use mathlib.Core.List.{List, [], ◌∷◌, ◌++◌}
use lib.ListN.{length, take, drop, replicate, length-replicate}
use lib.Dec.{T, eqb, leb, leb→le}
use Rattle.volume.proofs.Tests.{conditions_cons}
use Rattle.volume.specs.Bytes.{Bytes}
use Rattle.std.specs.Prelude.{Some, None, if◌then◌else◌}
use Rattle.model.specs.Layout.{page_count, valid_length, valid_header}
use Rattle.model.specs.Sound.{sound}
use Rattle.claims.specs.Claim.{stops, goes}
use Rattle.audit.specs.Visit.{visit, concluded, first_row, audit, free}
use Rattle.agreement.specs.Marked.{is_marked}
use Rattle.audit.specs.Owner.{owner_row, owner_numbers}
use Rattle.audit.proofs.Audited.{Told, says_yes, full_row, audit_told, audit_sound, audit_owners}
use Rattle.audit.proofs.Visiting.{AtYes, Yes, visit_yes}
use Rattle.claims.proofs.Claims.{told, untold, goes_of, stops_of}
use Rattle.claims.specs.Lent.{outcome, Row}

free_zeros : (n : ℕ) → free (replicate n 0) ≡ n
unfolding free
free_zeros zero = refl
free_zeros (suc n) = omega (arith, free_zeros n)

pub free_first : (n : ℕ) → 1 ≤ n → 1 + free (first_row n) ≤ length (first_row n)
unfolding free
free_first n l = omega (arith, free_zeros (n - 1), length-replicate {A = ℕ} (n - 1) 0)

outcome_is : (r : Bool) (row : List ℕ) → outcome r row ≡ (if r then goes row else stops)
outcome_is true row = refl
outcome_is false row = refl

outcome_if : {r c : Bool} (row : List ℕ) → r ≡ c → outcome r row ≡ (if c then goes row else stops)
outcome_if {r} row e = outcome_is r row ∙ ap (λ (c : Bool). if c then goes row else stops) e

-- ---- the whole

says_no : (b : Bytes) → audit b ≡ stops → None ≡ (if sound b then Some (owner_numbers b) else None)
says_no b e = let no : sound b ≡ false = sym (ap says_yes (sym e) ∙ audit_sound b) in rw no

says_yes_lem : (b : Bytes) (row : List ℕ) → audit b ≡ goes row → (true ≡ sound b) × (row ++ replicate (256 - length row) 0 ≡ owner_numbers b)
says_yes_lem b row e = (ap says_yes (sym e) ∙ audit_sound b, ap full_row (sym e) ∙ audit_owners b)

-- of an image that is not sound it names nobody
pub unsound_owners : (b : Bytes) → sound b ≡ false → replicate 256 0 ≡ owner_numbers b
unfolding owner_row owner_numbers
unsound_owners b e = rw e

audit_short : (b : Bytes) → valid_length (length b) ≡ false → audit b ≡ stops
unfolding audit
audit_short b e = rw e

audit_headless : (b : Bytes) → valid_length (length b) ≡ true → valid_header b ≡ false → audit b ≡ stops
unfolding audit
audit_headless b e f = rw (e, f)

audit_full : (b : Bytes) → valid_length (length b) ≡ true → valid_header b ≡ true → audit b ≡ concluded b (visit (page_count b) b (0 ∷ []) (first_row (page_count b)))
unfolding audit
audit_full b e f = rw (e, f)

-- ---- the row at the start: the first n of 256

take_zeros : (n k : ℕ) → n ≤ k → take {A = ℕ} n (replicate k 0) ≡ replicate n 0
take_zeros zero k h = refl
take_zeros (suc n) zero h = absurd (omega arith)
take_zeros (suc n) (suc k) h = ap (λ (l : List ℕ). 0 ∷ l) (take_zeros n k (omega arith))

drop_zeros : (n k : ℕ) → n ≤ k → drop {A = ℕ} n (replicate k 0) ≡ replicate (k - n) 0
drop_zeros zero k h = let e : k ≡ k - 0 = omega arith in ap (λ (m : ℕ). replicate {A = ℕ} m 0) e
drop_zeros (suc n) zero h = absurd (omega arith)
drop_zeros (suc n) (suc k) h = let e : k - n ≡ suc k - suc n = omega arith in drop_zeros n k (omega arith) ∙ ap (λ (m : ℕ). replicate {A = ℕ} m 0) e

take_first : (n : ℕ) → 1 ≤ n → n ≤ 256 → take {A = ℕ} n (1 ∷ replicate 255 0) ≡ first_row n
take_first zero l u = absurd (omega arith)
take_first (suc n) l u = let e : n ≡ suc n - 1 = omega arith in ap (λ (r : List ℕ). 1 ∷ r) (take_zeros n 255 (omega arith) ∙ ap (λ (m : ℕ). replicate {A = ℕ} m 0) e)

drop_first : (n : ℕ) → 1 ≤ n → n ≤ 256 → drop {A = ℕ} n (1 ∷ replicate 255 0) ≡ replicate (256 - n) 0
drop_first zero l u = absurd (omega arith)
drop_first (suc n) l u = let e : 255 - n ≡ 256 - suc n = omega arith in drop_zeros n 255 (omega arith) ∙ ap (λ (m : ℕ). replicate {A = ℕ} m 0) e

pub allowed : (n : ℕ) → valid_length n ≡ true → (2048 ≤ n) × (n ≤ 65536)
unfolding valid_length
allowed n e =
    let x = conditions_cons (eqb (n % 2048) 0) (leb 2048 n ∷ leb n 65536 ∷ []) (subst T (sym e) tt) in
    let y = conditions_cons (leb 2048 n) (leb n 65536 ∷ []) x.1 in
    let z = conditions_cons (leb n 65536) [] y.1 in
    (leb→le 2048 n y.0, leb→le n 65536 z.0)

module _ (b : Bytes) (n : ℕ) (pages : n ≡ page_count b) (valid : valid_length (length b) ≡ true) where
  pub few : n ≤ 256
  few = let h = allowed (length b) valid in omega arith

  low : 8 ≤ n
  low = let h = allowed (length b) valid in omega arith

  pub first_length : n ≡ length (take {A = ℕ} n (1 ∷ replicate 255 0))
  first_length = sym (ap length (take_first n (omega (arith, low)) few) ∙ omega (arith, low, length-replicate {A = ℕ} (n - 1) 0))

  pub first_row_lem : Row b (take {A = ℕ} n (1 ∷ replicate 255 0)) × (take {A = ℕ} n (1 ∷ replicate 255 0) ≡ first_row (page_count b)) × (8 ≤ page_count b)
  first_row_lem = (
    record { each = sym first_length ∙ pages; high = omega (arith, first_length, few) },
    take_first n (omega (arith, low)) few ∙ ap first_row pages,
    omega (arith, low),
  )

  says_full : (row : List ℕ) → audit b ≡ goes row → (true ≡ sound b) × (row ++ drop {A = ℕ} n (1 ∷ replicate 255 0) ≡ owner_numbers b)
  says_full row e =
      let y = says_yes_lem b row e in
      let t : AtYes b (Told b) (goes row) = subst (AtYes b (Told b)) e (audit_told b) in
      let k : 256 - n ≡ 256 - length row = omega (arith, t.long) in
      (y.0, ap (λ (l : List ℕ). row ++ l) (drop_first n (omega (arith, low)) few ∙ ap (λ (m : ℕ). replicate {A = ℕ} m 0) k) ∙ y.1)

-- a visit keeps the row's length
visit_long : (b : Bytes) (f : ℕ) (ds row r : List ℕ) → goes r ≡ visit f b ds row → length r ≡ length row
visit_long b f ds row r e = let y : AtYes b (Yes b f ds row) (goes r) = subst (AtYes b (Yes b f ds row)) (sym e) (visit_yes b f ds row) in y.sets.long

-- as the code goes: r is the answer of the visit of the whole image, and m its row
module _ (b : Bytes) {row : List ℕ} (r : Bool) (m : List ℕ) (v : outcome r m ≡ visit (page_count b) b (0 ∷ []) row) where
  pub row_stops : row ≡ first_row (page_count b) → not r ≡ true → stops ≡ concluded b (visit (page_count b) b (0 ∷ []) (first_row (page_count b)))
  unfolding concluded
  row_stops e h = rw (← e, ← stops_of r m v h)

  pub row_long : Row b row → not r ≡ false → Row b m
  row_long k h =
      let l = visit_long b (page_count b) (0 ∷ []) row m (goes_of r v h) in
      record { each = l ∙ k.each; high = omega (arith, l, k.high) }

  pub row_goes : row ≡ first_row (page_count b) → not r ≡ false → {a : Bool} → a ≡ is_marked b m
      → outcome a m ≡ concluded b (visit (page_count b) b (0 ∷ []) (first_row (page_count b)))
  unfolding concluded
  row_goes e h q = outcome_if m q ∙ rw (← e, ← goes_of r v h)

-- the tests in their order: the length, the header, and the row of the visit
module _ (b : Bytes) {r : Bool} (e : r ≡ valid_length (length b)) where
  pub no_length : not r ≡ true → None ≡ (if sound b then Some (owner_numbers b) else None)
  no_length h = says_no b (audit_short b (untold e h))

  module _ (k : not r ≡ false) {s : Bool} (f : s ≡ valid_header b) where
    pub no_header : not s ≡ true → None ≡ (if sound b then Some (owner_numbers b) else None)
    no_header h = says_no b (audit_headless b (told e k) (untold f h))

    module _ (h : not s ≡ false) (a : Bool) (m : List ℕ) (o : outcome a m ≡ concluded b (visit (page_count b) b (0 ∷ []) (first_row (page_count b)))) where
      pub no_row : not a ≡ true → None ≡ (if sound b then Some (owner_numbers b) else None)
      no_row q = says_no b (audit_full b (told e k) (told f h) ∙ sym (stops_of a m o q))

      pub yes_row : not a ≡ false → (n : ℕ) → n ≡ page_count b → Some (m ++ drop {A = ℕ} n (1 ∷ replicate 255 0)) ≡ (if sound b then Some (owner_numbers b) else None)
      yes_row q n c =
          let full = says_full b n c (told e k) m (audit_full b (told e k) (told f h) ∙ sym (goes_of a o q)) in
          let yes : sound b ≡ true = sym full.0 in
          rw (yes, full.1)
