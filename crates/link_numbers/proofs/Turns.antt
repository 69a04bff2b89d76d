-- A number, a byte at a time.
use mathlib.Core.Path.{◌≡◌, refl, sym, ap, subst, ◌∙◌}
use mathlib.Core.Option.{none, some}
use Prim.Native.Nat.{ℕ, zero, suc, ◌+◌, ◌-◌, ◌*◌, ◌%◌, ◌^◌, ◌≤◌, ◌<◌}
use native.Mathlib.Nat.{pow-suc, pow-le-pow_right}
use native.Mathlib.Numerals.{add-one}
use native.Mathlib.Omega.{arith}
use native.Mathlib.Decide.{ℕ_discrete}
use mathlib.Core.List.{[], ◌∷◌}
use lib.ListN.{length, get_or, drop, drop_of_length-le}
use lib.Seq.{drop-cons}
use borrow.Author.Tests.{lt-ltb, le-ltb, eq-eqb, ne_eqb}
use Rattle.std.specs.Prelude.{Option, Some, None}
use Rattle.volume.specs.Bytes.{Bytes}
use Rattle.link_list.specs.Coding.{joined, take_number}
use Rattle.link_numbers.specs.declared.Number.{Number}
use Rattle.link_numbers.specs.Told.{number_told, NumberFits, Short, joined_to}

pub number_none : (most : ℕ) (v : Bytes) → most ≡ 0 → none ≡ take_number most v
unfolding take_number
number_none most v e = rw e

number_empty : (most : ℕ) → take_number most [] ≡ none
unfolding take_number
number_empty zero = refl
number_empty (suc most) = refl

pub number_end : (most at : ℕ) (v : Bytes) → length v ≤ at → none ≡ take_number most (drop at v)
number_end most at v h = sym (rw (drop_of_length-le v h) (number_empty most))

joined_zero : (low n : ℕ) (w : Bytes) → n ≡ 0 → joined low (some (n, w)) ≡ none
unfolding joined
joined_zero low n w e = rw (eq-eqb n 0 e)

joined_more : (low n : ℕ) (w : Bytes) → (n ≡ 0 → ⊥) → joined low (some (n, w)) ≡ some (low + 128 * n, w)
unfolding joined
joined_more low n w e = rw (ne_eqb n 0 e)

-- one byte more
more_fits : (most low n : ℕ) → 1 ≤ most → low < 128 → n < 128 ^ (most - 1) → low + 128 * n < 128 ^ most
more_fits most low n z l h =
    let p : 128 ^ most ≡ 128 ^ suc (most - 1) = let e : most ≡ suc (most - 1) = omega arith in ap (λ (m : ℕ). 128 ^ m) e in
    omega (arith, p, pow-suc 128 (most - 1), h)

one_fits : (most c : ℕ) → 1 ≤ most → c < 128 → c < 128 ^ most
one_fits most c z l =
    let p : 128 ^ 1 ≤ 128 ^ most = pow-le-pow_right (omega arith) {i = 1} {j = most} (omega arith) in
    omega (arith, p, l)

-- ---- what an answer that is known says

abbrev pub Says : Bytes → (most : ℕ) → Bytes → Option Number → Type 0
Says v most w a = (number_told v a ≡ take_number most w) × NumberFits v most a

pub says_number : (v : Bytes) (most : ℕ) (w : Bytes) {a : Option Number} {n : Number} → a ≡ Some n → Says v most w a
    → (some (n.value, drop n.next v) ≡ take_number most w) × ((n.value < 128 ^ most) × (n.next ≤ length v))
says_number v most w e h = subst (Says v most w) e h

pub says_broken : (v : Bytes) (most : ℕ) (w : Bytes) {a : Option Number} → a ≡ None → Says v most w a → none ≡ take_number most w
says_broken v most w e h = (subst (Says v most w) e h).0

-- ---- the byte c at a place of v

module _ (most at c : ℕ) (v : Bytes) (z : 1 ≤ most) (h : at < length v) (e : c ≡ get_or v at 0) where
  some_most : most ≡ suc (most - 1)
  some_most = omega arith

  one_on : drop at v ≡ c ∷ drop (at + 1) v
  one_on = rw (add-one at, e) (drop-cons v at 0 h)

  pub number_last : c < 128 → Says v most (drop at v) (Some (record { value = c; next = at + 1 }))
  unfolding take_number
  number_last l = (sym (ap (λ (m : ℕ). take_number m (drop at v)) some_most ∙ rw (one_on, lt-ltb c 128 l)), (one_fits most c z l, omega (arith, h)))

-- more bytes follow c, and were read as a
pub record More (most at c : ℕ) (v : Bytes) (a : Option Number) : Type 0 where
  pub some_most : 1 ≤ most
  pub inside : at < length v
  pub byte : c ≡ get_or v at 0
  pub high : 128 ≤ c
  pub rest : Says v (most - 1) (drop (at + 1) v) a

module _ {most at c : ℕ} {v : Bytes} {a : Option Number} (m : More most at c v a) where
  number_more : take_number most (drop at v) ≡ joined (c % 128) (number_told v a)
  unfolding take_number
  number_more =
      ap (λ (k : ℕ). take_number k (drop at v)) (some_most most at c v m.some_most m.inside m.byte)
      ∙ rw (one_on most at c v m.some_most m.inside m.byte, le-ltb c 128 m.high) (ap (joined (c % 128)) (sym m.rest.0))

  number_broken : a ≡ None → none ≡ take_number most (drop at v)
  unfolding joined
  number_broken is = sym (number_more ∙ rw is)

  module _ {n : Number} (is : a ≡ Some n) where
    fits : (n.value < 128 ^ (most - 1)) × (n.next ≤ length v)
    fits = (says_number v (most - 1) (drop (at + 1) v) is m.rest).1

    -- what is behind is below 128 to the seventh
    seven_bytes : most ≤ 8 → n.value < 562949953421312
    seven_bytes l =
        let p : 128 ^ (most - 1) ≤ 128 ^ 7 = pow-le-pow_right (omega arith) {i = most - 1} {j = 7} (omega arith) in
        omega (arith, p, fits.0)

    on : take_number most (drop at v) ≡ joined (c % 128) (some (n.value, drop n.next v))
    on = number_more ∙ ap (λ (x : Option Number). joined (c % 128) (number_told v x)) is

    number_zero : n.value ≡ 0 → none ≡ take_number most (drop at v)
    number_zero e = sym (on ∙ joined_zero (c % 128) n.value (drop n.next v) e)

    number_on : (n.value ≡ 0 → ⊥) → Says v most (drop at v) (Some (record { value = c % 128 + 128 * n.value; next = n.next }))
    number_on ne = (sym (on ∙ joined_more (c % 128) n.value (drop n.next v) ne), (more_fits most (c % 128) n.value m.some_most (omega arith) fits.0, fits.1))

-- ---- the byte c joined to what was read behind it

pub short_is : {a : Option Number} {n : Number} → a ≡ Some n → Short a → n.value < 562949953421312
short_is is h = subst Short is h

module _ (c : ℕ) {a : Option Number} where
  pub joins_broken : a ≡ None → None ≡ joined_to c a
  unfolding joined_to
  joins_broken e = sym (ap (joined_to c) e)

  module _ {n : Number} (is : a ≡ Some n) where
    pub joins_zero : n.value ≡ 0 → None ≡ joined_to c a
    unfolding joined_to
    joins_zero e = sym (ap (joined_to c) is ∙ rw (eq-eqb n.value 0 e))

    pub joins_more : (n.value ≡ 0 → ⊥) → Some (record { value = c % 128 + 128 * n.value; next = n.next }) ≡ joined_to c a
    unfolding joined_to
    joins_more ne = sym (ap (joined_to c) is ∙ rw (ne_eqb n.value 0 ne))

module _ {most at c : ℕ} {v : Bytes} {a : Option Number} (m : More most at c v a) where
  pub rest_short : most ≤ 8 → Short a
  rest_short l = go a refl
    where
      go : (x : Option Number) → a ≡ x → Short x
      go (Some n) is = seven_bytes m is l
      go None is = tt

  pub number_joined : {r : Option Number} → r ≡ joined_to c a → Says v most (drop at v) r
  number_joined e = subst (Says v most (drop at v)) (sym e) (go a refl)
    where
      go : (x : Option Number) → a ≡ x → Says v most (drop at v) (joined_to c a)
      go (Some n) is = elim (ℕ_discrete n.value 0) [
        | yes z ↦ subst (Says v most (drop at v)) (joins_zero c is z) (number_zero m is z, tt)
        | no ne ↦ subst (Says v most (drop at v)) (joins_more c is ne) (number_on m is ne)
      ]
      go None is = subst (Says v most (drop at v)) (joins_broken c is) (number_broken m is, tt)
