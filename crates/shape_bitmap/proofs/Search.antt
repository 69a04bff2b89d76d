-- The loops over the bitmap, a turn at a time: the pages of a word add its zeros to the count, and the search passes over the pages of a byte that are taken.
use mathlib.Core.Path.{◌≡◌, refl, sym, ap, ◌∙◌}
use Prim.Native.Nat.{ℕ, min, ◌+◌, ◌-◌, ◌*◌, ◌%◌, ◌^◌, ◌≤◌, ◌<◌}
use native.Mathlib.Nat.{zero-min}
use native.Mathlib.Omega.{arith}
use lib.Count.{ones}
use Rattle.volume.specs.Bytes.{Bytes, bit, byte_at}
use Rattle.volume.specs.Geometry.{Geometry, page_bit, zero_bits, lowest_free}
use Rattle.std.specs.Prelude.{Some, None}
use Rattle.shape_bitmap.specs.Lowest.{Before, Lowest}
use Rattle.words.specs.Words.{Holds, Ends}
use Rattle.words.proofs.Words.{holds_byte}
use Rattle.volume.proofs.Search.{lowest_from, from_start, from_free, from_end, from_run}
use Rattle.shape_bitmap.proofs.Words.{zeros_and_ones, holds_pages}

-- the m lowest bits of w are those of the pages from p on
pub record BitsOf (g : Geometry) (b : Bytes) (p m w : ℕ) : Type 0 where
  pub each : (j : ℕ) → j < m → bit j w ≡ page_bit g b (p + j)

pub bits_of_word : (g : Geometry) {b : Bytes} (q : ℕ) {w : ℕ} → Holds b (g.map + 8 * q) 64 w → BitsOf g b (64 * q) 64 w
bits_of_word g {b} q held = record {
  each = λ j l. let e : 8 * (8 * q) + j ≡ 64 * q + j = omega arith in holds_pages g (8 * q) refl held j l ∙ ap (page_bit g b) e;
}

pub bits_of_byte : (g : Geometry) (b : Bytes) (q : ℕ) {w : ℕ} → w ≡ byte_at b (g.map + q) → BitsOf g b (8 * q) 8 w
bits_of_byte g b q e = record { each = holds_pages g q refl (holds_byte e) }

-- ---- the count

-- the word's `least` lowest bits are those of pages below n, and `more` of them are 0
pub zeros_more : (g : Geometry) {b : Bytes} (q : ℕ) {w : ℕ} → Holds b (g.map + 8 * q) 64 w
    → (n least zeros more : ℕ) → 64 * q < n → least ≡ min (n - 64 * q) 64 → more + ones (w % 2 ^ least) ≡ least
    → zeros ≡ zero_bits g b (min (64 * q) n) → zeros + more ≡ zero_bits g b (min (64 * (q + 1)) n)
zeros_more g {b} q {w} held n least zeros more h l e z =
    let here : min (64 * q) n ≡ 64 * q = omega arith in
    let next : 64 * q + least ≡ min (64 * (q + 1)) n = omega arith in
    let low = z ∙ ap (zero_bits g b) here in
    let sum : zeros + more ≡ zero_bits g b (64 * q + least) =
    omega (arith, zeros_and_ones g b (64 * q) w least (λ j h. (bits_of_word g q held).each j (omega arith))) in
    sum ∙ ap (zero_bits g b) next

-- ---- the search

-- the bits of the m pages from p on, whose ones end at k; before them no page of n is free
module _ {g : Geometry} {b : Bytes} {p m w k : ℕ} (bits : BitsOf g b p m w) (e : Ends 64 w k) (n : ℕ) (so_far : lowest_from g b n p ≡ lowest_free g n b) where
  run : (j : ℕ) → j ≤ k → j ≤ m → lowest_from g b n (p + j) ≡ lowest_free g n b
  run j h l = from_run g b j n p (λ i less. sym (bits.each i (omega arith)) ∙ e.below i (omega arith)) ∙ so_far

  pub free_here : k < m → m ≤ 64 → p + k < n → Lowest n (lowest_free g n b) (Some (record { 0 = p + k }))
  free_here l most h =
      let r = sym (from_free g b n (p + k) h (sym (bits.each k l) ∙ e.here (omega arith))) ∙ run k (omega arith) (omega arith) in
      record { number = r; none = λ u. absurd (omega (arith, r, u)) }

  pub free_past : k < m → n ≤ p + k → Lowest n (lowest_free g n b) None
  free_past l h = record { number = sym (from_end g b n (p + k) h) ∙ run k (omega arith) (omega arith); none = λ u. refl }

  pub all_taken : m ≤ k → (next : ℕ) → next ≡ p + m → lowest_from g b n next ≡ lowest_free g n b
  all_taken h next at = ap (lowest_from g b n) at ∙ run m h (omega arith)

-- what a turn of `lowest_free_from` at byte q says, whatever it reads there: a free page below n is the lowest one, and one that is not below n tells that
-- there is none. The check finds each return's proof here by itself, whatever the code's test is called.
pub record Turn (g : Geometry) (b : Bytes) (n q : ℕ) : Type 0 where
  pub so_far : lowest_from g b n (8 * q) ≡ lowest_free g n b
  pub free : (w k : ℕ) → w ≡ byte_at b (g.map + q) → Ends 64 w k → k < 8 → 8 * q + k < n → Lowest n (lowest_free g n b) (Some (record { 0 = 8 * q + k }))
  pub past : (w k : ℕ) → w ≡ byte_at b (g.map + q) → Ends 64 w k → k < 8 → n ≤ 8 * q + k → Lowest n (lowest_free g n b) None

pub turn_at : (g : Geometry) (b : Bytes) (n q : ℕ) → lowest_from g b n (8 * q) ≡ lowest_free g n b → Turn g b n q
turn_at g b n q so_far = record {
  so_far = so_far;
  free = λ w k read e l h. free_here (bits_of_byte g b q read) e n so_far l (omega arith) h;
  past = λ w k read e l h. free_past (bits_of_byte g b q read) e n so_far l h;
}

module _ (g : Geometry) (b : Bytes) (n : ℕ) where
  pub before_first : Before g n 0 b
  before_first = record { low = omega arith; same = from_start g b n }

  pub search_done : (p : ℕ) → lowest_from g b n p ≡ lowest_free g n b → n ≤ p → Lowest n (lowest_free g n b) None
  search_done p so_far h = record { number = sym (from_end g b n p h) ∙ so_far; none = λ u. refl }

  pub count_first : 0 ≡ zero_bits g b (min 0 n)
  unfolding zero_bits
  count_first = rw (zero-min n)

  pub count_done : (q zeros : ℕ) → zeros ≡ zero_bits g b (min (64 * q) n) → n ≤ 64 * q → zeros ≡ zero_bits g b n
  count_done q zeros so_far h = let all : min (64 * q) n ≡ n = omega arith in so_far ∙ ap (zero_bits g b) all
