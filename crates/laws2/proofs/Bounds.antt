-- What lengths and page codes that pass lines 1 and 26 say in numbers. The three codes are told apart here alone: above this an image has N pages of
-- some size, and both are letters.
use mathlib.Core.Path.{◌≡◌}
use Prim.Native.Nat.{ℕ, zero, suc, ◌*◌, ◌%◌, ◌≤◌}
use native.Mathlib.Nat.{mul_comm}
use native.Mathlib.Omega.{arith}
use mathlib.Core.Bool.{Bool, true, false, ◌||◌}
use lib.Dec.{T, eqb, leb, leb→le, eqb→eq}
use Rattle.volume.proofs.Tests.{conditions_cons}
use Rattle.model2.specs.Layout.{page_size, page_count, valid_length, fit_code}

-- lines 1 and 26 are passed
pub record Allowed (code n : ℕ) : Type 0 where
  pub length : T (valid_length n)
  pub fit : T (fit_code code n)

pub record Bounds (code n : ℕ) : Type 0 where
  pub low : code ≤ 2
  pub large : 256 ≤ page_size code
  pub bound : page_size code ≤ 1024
  pub whole : n ≡ page_size code * page_count code n
  pub some : 8 ≤ page_count code n
  pub few : page_count code n ≤ 1024
  pub eights : page_count code n % 8 ≡ 0
  -- as many pages as a page has bytes, at most: so the table is large enough
  pub table : page_count code n ≤ page_size code

or_left : (a b : Bool) → T (a || b) → (T b → ⊥) → T a
or_left true b t n = tt
or_left false b t n = absurd (n t)

between : (n : ℕ) → T (valid_length n) → (2048 ≤ n) × (n ≤ 1048576)
unfolding valid_length
between n t =
    let u = (conditions_cons (eqb (n % 2048) 0) _ t).1 in
    let v = conditions_cons (leb 2048 n) _ u in
    (leb→le 2048 n v.0, leb→le n 1048576 (conditions_cons (leb n 1048576) _ v.1).0)

by_code : (n code : ℕ) → (2048 ≤ n) × (n ≤ 1048576) → T (leb code 2) → T (leb n 65536 || leb 1 code) → T (leb n 262144 || leb 2 code)
    → n % (8 * page_size code) ≡ 0 → Bounds code n
by_code n zero l c p q e =
    let h : n ≤ 65536 = leb→le n 65536 (or_left (leb n 65536) false p (λ t. t)) in
    record {
      low = omega arith;
      large = omega arith;
      bound = omega arith;
      whole = omega arith;
      some = omega (arith, l.0);
      few = omega arith;
      eights = omega arith;
      table = omega arith;
    }
by_code n (suc zero) l c p q e =
    let h : n ≤ 262144 = leb→le n 262144 (or_left (leb n 262144) false q (λ t. t)) in
    record {
      low = omega arith;
      large = omega arith;
      bound = omega arith;
      whole = omega arith;
      some = omega (arith, l.0);
      few = omega arith;
      eights = omega arith;
      table = omega arith;
    }
by_code n (suc (suc zero)) l c p q e = record {
  low = omega arith;
  large = omega arith;
  bound = omega arith;
  whole = omega arith;
  some = omega (arith, l.0);
  few = omega (arith, l.1);
  eights = omega arith;
  table = omega (arith, l.1);
}
by_code n (suc (suc (suc k))) l c p q e = absurd (omega (arith, leb→le (suc (suc (suc k))) 2 c))

pub bounds : {code n : ℕ} → Allowed code n → Bounds code n
unfolding fit_code
bounds {code} {n} a =
    let u = conditions_cons (leb code 2) _ a.fit in
    let v = conditions_cons (leb n 65536 || leb 1 code) _ u.1 in
    let w = conditions_cons (leb n 262144 || leb 2 code) _ v.1 in
    let x = conditions_cons (eqb (n % (8 * page_size code)) 0) _ w.1 in
    by_code n code (between n a.length) u.0 v.0 w.0 (eqb→eq (n % (8 * page_size code)) 0 x.0)

-- the bytes of all pages
pub all_bytes : {code n : ℕ} → Allowed code n → page_count code n * page_size code ≡ n
all_bytes {code} {n} a = omega (arith, (bounds a).whole, mul_comm (page_count code n) (page_size code))
