-- A word of the bitmap: its bits are those of pages, and each is a zero or a one, so zeros and ones together are as many as the pages.
use mathlib.Core.Path.{◌≡◌, refl, sym, ap, ap₂, ◌∙◌}
use Prim.Native.Nat.{ℕ, zero, suc, ◌+◌, ◌-◌, ◌*◌, ◌/◌, ◌%◌, ◌^◌, ◌<◌}
use native.Mathlib.Nat.{mod-lt, mod-one, zero-lt-suc, zero-div, add-zero, add-suc, add_comm}
use native.Mathlib.Numerals.{add-one}
use native.Mathlib.Omega.{arith}
use lib.Pow.{mod-pow-add, pow_pos}
use lib.Count.{ones, ones_in, ones_cat}
use Rattle.volume.specs.Bytes.{Bytes, bit, byte_at}
use Rattle.volume.specs.Geometry.{Geometry, page_bit, zero_bits}
use Rattle.words.specs.Words.{Holds}
use Rattle.words.proofs.Words.{holds_byte}
use Rattle.shape_bitmap.specs.Words.{Clear}

-- ---- the bits of pages in a word

-- a word from byte `from` of the bitmap on has the bits of the pages from 8 * from on
pub holds_pages : (g : Geometry) (from : ℕ) {b : Bytes} {at m w : ℕ} → at ≡ g.map + from → Holds b at m w → (j : ℕ) → j < m → bit j w ≡ page_bit g b (8 * from + j)
unfolding page_bit
holds_pages g from {b} {at} e held j l =
    let r : j % 8 ≡ (8 * from + j) % 8 = omega arith in
    let p : at + j / 8 ≡ g.map + (8 * from + j) / 8 = omega (arith, e) in
    held.each j l ∙ ap₂ {C = ℕ} (λ (k i : ℕ). bit k (byte_at b i)) r p

-- a word of k bytes that is 0
pub holds_none : (g : Geometry) {b : Bytes} {at from w : ℕ} (k : ℕ) → at ≡ g.map + from → Holds b at (8 * k) w → w ≡ 0 → Clear g b from k
holds_none g {b} {at} {from} k place held z = record {
  each = λ p l h.
      let e : 8 * from + (p - 8 * from) ≡ p = omega arith in
      ap (page_bit g b) (sym e) ∙ sym (holds_pages g from place held (p - 8 * from) (omega arith)) ∙ ap (bit (p - 8 * from)) z
      ∙ ap (λ (x : ℕ). x % 2) (zero-div (2 ^ (p - 8 * from)));
}

-- what each return of `clear_bytes` has seen: nothing, a byte that is 0, a word that is 0
pub none_clear : (g : Geometry) {b : Bytes} (from : ℕ) → Clear g b from 0
none_clear g from = record { each = λ p l h. absurd (omega arith) }

pub byte_clear : (g : Geometry) {b : Bytes} (from : ℕ) → byte_at b (g.map + from) ≡ 0 → Clear g b from 1
byte_clear g from = holds_none g 1 refl (holds_byte refl)

pub word_clear : (g : Geometry) {b : Bytes} (from : ℕ) {w : ℕ} → Holds b (g.map + from) 64 w → w ≡ 0 → Clear g b from 8
word_clear g from = holds_none g 8 refl

-- ---- the count

bit_below : (k x : ℕ) → bit k x < 2
bit_below k x = mod-lt (x / 2 ^ k) (zero-lt-suc 1)

ones_of_bit : (d : ℕ) → d < 2 → ones d ≡ d
unfolding ones ones_in
ones_of_bit zero l = refl
ones_of_bit (suc zero) l = refl
ones_of_bit (suc (suc d)) l = absurd (omega arith)

ones_more : (k w : ℕ) → ones (w % 2 ^ (1 + k)) ≡ bit k w + ones (w % 2 ^ k)
ones_more k w =
    ap ones (mod-pow-add w 1 k) ∙ ones_cat k (bit k w) (w % 2 ^ k) (mod-lt w (pow_pos k))
    ∙ ap (λ (x : ℕ). x + ones (w % 2 ^ k)) (ones_of_bit (bit k w) (bit_below k w))

-- the zeros of k pages and the ones of k bits make k
pub zeros_and_ones : (g : Geometry) (b : Bytes) (p w k : ℕ) → ((j : ℕ) → j < k → bit j w ≡ page_bit g b (p + j))
    → zero_bits g b (p + k) + ones (w % 2 ^ k) ≡ zero_bits g b p + k
unfolding zero_bits ones ones_in
zeros_and_ones g b p w zero h = rw (add-zero p, mod-one w) refl
zeros_and_ones g b p w (suc k) h =
    let before = zeros_and_ones g b p w k (λ j l. h j (omega arith)) in
    let more : ones (w % 2 ^ suc k) ≡ bit k w + ones (w % 2 ^ k) = ap (λ (n : ℕ). ones (w % 2 ^ n)) (sym (add-one k) ∙ add_comm k 1) ∙ ones_more k w in
    let grown : zero_bits g b (p + suc k) ≡ zero_bits g b (p + k) + (1 - page_bit g b (p + k)) = ap (zero_bits g b) (add-suc p k) in
    omega (arith, before, more, grown, h k (omega arith), bit_below k w)
