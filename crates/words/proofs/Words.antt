-- A bit of a number in two parts is a bit of one of them, so bytes make a word in order; the zeros of a complement end at the lowest zero of the word;
-- and a number of k bits has at most k ones.
use mathlib.Core.Path.{◌≡◌, sym, ap, ap₂, ◌∙◌, subst}
use Prim.Native.Nat.{ℕ, zero, suc, ◌+◌, ◌-◌, ◌*◌, ◌/◌, ◌%◌, ◌^◌, ◌≤◌, ◌<◌}
use native.Mathlib.Nat.{pow-suc, mod-lt, mod-eq_of_lt, mul_comm}
use native.Mathlib.Omega.{arith}
use native.Mathlib.Decide.{dec_lt}
use lib.Pow.{shr-shr, high, low, field, mod-mod-pow, pow_pos}
use lib.Count.{ones, ones-le, count_trailing_zeros, under}
use Rattle.volume.specs.Bytes.{Bytes, bit, byte_at}
use Rattle.volume.proofs.Bits.{bit_zero, bit_suc}
use Rattle.words.specs.Words.{Holds, Ends}

-- ---- the bits of a number in two parts

-- a bit hangs on the bits up to it alone
bit_mod : (m k n : ℕ) → k < m → bit k (n % 2 ^ m) ≡ bit k n
bit_mod m k n l =
    let e : m ≡ (m - (1 + k)) + (1 + k) = omega arith in
    ap (λ (z : ℕ). bit k (n % 2 ^ z)) e ∙ sym (field (n % 2 ^ ((m - (1 + k)) + (1 + k))) 1 k)
    ∙ ap (λ (x : ℕ). x / 2 ^ k) (mod-mod-pow n (m - (1 + k)) (1 + k)) ∙ field n 1 k

bit_of_low : (m k y x : ℕ) → x < 2 ^ m → k < m → bit k (y * 2 ^ m + x) ≡ bit k x
bit_of_low m k y x h l = sym (bit_mod m k (y * 2 ^ m + x) l) ∙ ap (bit k) (low y m h)

bit_of_high : (m k y x : ℕ) → x < 2 ^ m → bit (m + k) (y * 2 ^ m + x) ≡ bit k y
bit_of_high m k y x h = ap (λ (z : ℕ). z % 2) (sym (shr-shr (y * 2 ^ m + x) m k)) ∙ ap (bit k) (high y m h)

-- ---- bytes in a word

pub holds_byte : {b : Bytes} {at x : ℕ} → x ≡ byte_at b at → Holds b at 8 x
holds_byte {at = at} e = record {
  each = λ j l.
      let r : j % 8 ≡ j = omega arith in
      let d : at + j / 8 ≡ at = omega arith in
      rw (r, d, e);
}

-- two words, the second one above the first, which has q bytes
pub holds_join : {b : Bytes} {at m x y : ℕ} (q : ℕ) → x < 2 ^ (8 * q) → Holds b at (8 * q) x → Holds b (at + q) m y
    → Holds b at (8 * q + m) (x + 2 ^ (8 * q) * y)
holds_join {b} {at} {m} {x} {y} q h lower upper = record { each = λ j l. ap (bit j) turned ∙ each j l }
  where
    turned : x + 2 ^ (8 * q) * y ≡ y * 2 ^ (8 * q) + x
    turned = omega (arith, mul_comm (2 ^ (8 * q)) y)

    each : (j : ℕ) → j < 8 * q + m → bit j (y * 2 ^ (8 * q) + x) ≡ bit (j % 8) (byte_at b (at + j / 8))
    each j l = elim (dec_lt j (8 * q)) [
      | yes c ↦ bit_of_low (8 * q) j y x h c ∙ lower.each j c
      | no c ↦
          let e : j ≡ 8 * q + (j - 8 * q) = omega (arith, c) in
          let r : (j - 8 * q) % 8 ≡ j % 8 = omega (arith, c) in
          let p : at + q + (j - 8 * q) / 8 ≡ at + j / 8 = omega (arith, c) in
          ap (λ (k : ℕ). bit k (y * 2 ^ (8 * q) + x)) e ∙ bit_of_high (8 * q) (j - 8 * q) y x h ∙ upper.each (j - 8 * q) (omega (arith, c))
          ∙ ap₂ {C = ℕ} (λ (k i : ℕ). bit k (byte_at b i)) r p
    ]

pub holds_bytes : {b : Bytes} {at x y : ℕ} → x ≡ byte_at b at → x < 256 → y ≡ byte_at b (at + 1) → Holds b at 16 (x + 256 * y)
holds_bytes low h high = holds_join 1 h (holds_byte low) (holds_byte high)

-- ---- the lowest zero

-- a complement of m + 1 bits: its lowest bit and the rest
module _ (m w : ℕ) (h : w < 2 ^ suc m) where
  complement_low : ((2 ^ suc m - 1) - w) % 2 + w % 2 ≡ 1
  complement_low = omega (arith, pow-suc 2 m)

  complement_half : ((2 ^ suc m - 1) - w) / 2 ≡ (2 ^ m - 1) - w / 2
  complement_half = omega (arith, pow-suc 2 m)

module _ (w : ℕ) {m t : ℕ} (rest : Ends m (w / 2) t) where
  ones_from_0 : w % 2 ≡ 1 → (j : ℕ) → j < suc t → bit j w ≡ 1
  ones_from_0 e zero l = bit_zero w ∙ e
  ones_from_0 e (suc j) l = bit_suc j w ∙ rest.below j (omega arith)

  -- d is the lowest bit of the complement
  ends_under : (d : ℕ) → d + w % 2 ≡ 1 → Ends (suc m) w (under d t)
  ends_under zero e =
      record { below = ones_from_0 (omega arith); here = λ l. bit_suc t w ∙ rest.here (omega arith); most = omega (arith, rest.most) }
  ends_under (suc d) e = record { below = λ j l. absurd (omega arith); here = λ l. bit_zero w ∙ omega arith; most = omega arith }

pub ends : (m w : ℕ) → w < 2 ^ m → Ends m w (count_trailing_zeros m ((2 ^ m - 1) - w))
unfolding count_trailing_zeros
ends zero w h = record { below = λ j l. absurd (omega arith); here = λ l. absurd (omega arith); most = omega arith }
ends (suc m) w h =
    subst (λ (t : ℕ). Ends (suc m) w (under (((2 ^ suc m - 1) - w) % 2) (count_trailing_zeros m t))) (sym (complement_half m w h))
    (ends_under w (ends m (w / 2) (omega (arith, pow-suc 2 m))) (((2 ^ suc m - 1) - w) % 2) (complement_low m w h))

-- ---- the ones of the lowest bits of a word

-- x is the weight of bit k, by which the remainder was taken, and r counts its ones
module _ (word k x r : ℕ) (w : x ≡ 2 ^ k) (e : r ≡ ones (word % x)) where
  pub low_most : r ≤ k
  low_most = let same = ap (λ (y : ℕ). ones (word % y)) w in omega (arith, e, same, ones-le k (word % 2 ^ k) (mod-lt word (pow_pos k)))

  pub low_zeros : k - r + ones (word % 2 ^ k) ≡ k
  low_zeros = let same = ap (λ (y : ℕ). ones (word % y)) w in omega (arith, e, same, low_most)

pub all_zeros : (word k r : ℕ) → word < 2 ^ 64 → k ≡ 64 → r ≡ ones word → r ≤ 64 → 64 - r + ones (word % 2 ^ k) ≡ k
all_zeros word k r fits e count most = rw e (omega (arith, count, ap ones (mod-eq_of_lt fits)))
