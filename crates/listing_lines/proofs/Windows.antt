-- A piece that does not reach the window leaves it, and what is poured piece after piece is poured whole.
use mathlib.Core.Path.{◌≡◌, refl, sym, ap, ◌∙◌}
use Prim.Native.Nat.{ℕ, ◌+◌, ◌-◌, ◌≤◌, ◌<◌, min}
use native.Mathlib.Nat.{add-zero, zero-add, sub-zero}
use native.Mathlib.Omega.{arith}
use native.Mathlib.Decide.{dec_le}
use mathlib.Core.List.{[], ◌++◌}
use lib.ListN.{length, take, drop, length-append, length-take, length-drop, drop_of_length-le}
use lib.Seq.{take-nil, drop-nil}
use Rattle.volume.specs.Bytes.{Bytes, put}
use Rattle.volume.proofs.Splice.{splice_nil}
use Rattle.volume.proofs.Puts.{put_length}
use Rattle.volume.proofs.Stretches.{take_min, put_two}
use Rattle.listing_lines.specs.Window.{Window, shown, poured}

-- as much of the text is passed, and nothing is written
abbrev passed : Bytes → Window → Window
passed v w = record { skip = w.skip - length v; done = w.done; buffer = w.buffer }

none_shown : (v : Bytes) (w : Window) → shown v w ≡ [] → poured v w ≡ passed v w
unfolding poured
none_shown v w e = λ i. record {
  skip = w.skip - length v;
  done = (ap (λ (s : Bytes). w.done + length s) e ∙ add-zero w.done) i;
  buffer = (ap (λ (s : Bytes). put w.done s w.buffer) e ∙ splice_nil w.buffer w.done) i;
}

poured_early : (v : Bytes) (w : Window) → length v ≤ w.skip → poured v w ≡ passed v w
unfolding shown
poured_early v w h = none_shown v w (ap (take (length w.buffer - w.done)) (drop_of_length-le v {i = w.skip} h) ∙ take-nil (length w.buffer - w.done))

poured_full : (v : Bytes) (w : Window) → length w.buffer ≤ w.done → poured v w ≡ passed v w
unfolding shown
poured_full v w h = let e : length w.buffer - w.done ≡ 0 = omega arith in none_shown v w (ap (λ (n : ℕ). take n (drop w.skip v)) e)

-- ---- the cases of the code

module _ (v : Bytes) (w : Window) where
  pub before_window : length v ≤ w.skip → record { skip = w.skip - length v; done = w.done; buffer = w.buffer } ≡ poured v w
  before_window h = sym (poured_early v w h)

  pub behind_window : w.skip < length v → length w.buffer ≤ w.done → record { skip = 0; done = w.done; buffer = w.buffer } ≡ poured v w
  behind_window k h =
      let e : 0 ≡ w.skip - length v = omega arith in
      ap {B = Window} (λ (n : ℕ). record { skip = n; done = w.done; buffer = w.buffer }) e ∙ sym (poured_full v w h)

  -- n bytes were copied
  module _ (n : ℕ) (fits : n ≡ min (length v - w.skip) (length w.buffer - w.done)) where
    all_shown : take (w.skip + n - w.skip) (drop w.skip v) ≡ shown v w
    unfolding shown
    all_shown =
        let e : w.skip + n - w.skip ≡ n = omega arith in
        rw e (take_min (length w.buffer - w.done) n (drop w.skip v) (omega (arith, length-drop w.skip v)))

    shown_length : n ≡ length (shown v w)
    unfolding shown
    shown_length = omega (arith, length-take (length w.buffer - w.done) (drop w.skip v), length-drop w.skip v)

    pub in_window : w.skip < length v → (o : Bytes) → o ≡ put w.done (take (w.skip + n - w.skip) (drop w.skip v)) w.buffer
        → record { skip = 0; done = w.done + n; buffer = o } ≡ poured v w
    unfolding poured
    in_window k o e =
        let none : 0 ≡ w.skip - length v = omega arith in
        λ i. record {
          skip = none i;
          done = w.done + shown_length i;
          buffer = (e ∙ ap (λ (x : Bytes). put w.done x w.buffer) all_shown) i;
        }

-- ---- piece after piece

pub poured_nil : (w : Window) → poured [] w ≡ w
unfolding shown
poured_nil w =
    none_shown [] w (ap (take (length w.buffer - w.done)) (drop-nil w.skip) ∙ take-nil (length w.buffer - w.done))
    ∙ ap {B = Window} (λ (n : ℕ). record { skip = n; done = w.done; buffer = w.buffer }) (sub-zero w.skip)

passed_append : (a b : Bytes) (w : Window) → passed (a ++ b) w ≡ passed b (passed a w)
passed_append a b w =
    let e : w.skip - length (a ++ b) ≡ w.skip - length a - length b = omega (arith, length-append a b) in
    ap {B = Window} (λ (n : ℕ). record { skip = n; done = w.done; buffer = w.buffer }) e

room_add : (c u y : ℕ) → min c (u + y) ≡ min c u + min (c - min c u) y
room_add c u y = omega arith

room_none : (c y : ℕ) → min c y ≡ min c 0 + min (c - min c 0) y
room_none c y = omega arith

-- of x bytes and then y, from byte s on, as many as c leaves room for: those of x, and then those of y
room_split : (c s x y : ℕ) → min c (x + y - s) ≡ min c (x - s) + min (c - min c (x - s)) (y - (s - x))
room_split c s x y = elim (dec_le s x) [
  | yes h ↦
      let e : x + y - s ≡ x - s + y = omega arith in
      let z : s - x ≡ 0 = omega arith in
      rw (e, z, sub-zero y) (room_add c (x - s) y)
  | no h ↦
      let z : x - s ≡ 0 = omega arith in
      let e : x + y - s ≡ y - (s - x) = omega arith in
      rw (z, e) (room_none c (y - (s - x)))
]

-- what a window that is not full shows of a, and then of b
module _ (a b : Bytes) (skip done : ℕ) (buffer : Bytes) (h : done ≤ length buffer) where
  here : Bytes
  here = take (length buffer - done) (drop skip a)

  here_length : length here ≡ min (length buffer - done) (length a - skip)
  unfolding here
  here_length = omega (arith, length-take (length buffer - done) (drop skip a), length-drop skip a)

  long : length (put done here buffer) ≡ length buffer
  long = put_length done here buffer (omega (arith, here_length))

  there : Bytes
  there = take (length (put done here buffer) - (done + length here)) (drop (skip - length a) b)

  there_length : length there ≡ min (length buffer - done - length here) (length b - (skip - length a))
  unfolding there
  there_length =
      let left : length (put done here buffer) - (done + length here) ≡ length buffer - done - length here = rw long (omega arith) in
      length-take (length (put done here buffer) - (done + length here)) (drop (skip - length a) b) ∙ rw (left, length-drop (skip - length a) b)

  both_length : length (take (length buffer - done) (drop skip (a ++ b))) ≡ min (length buffer - done) (length a + length b - skip)
  both_length = omega (arith, length-take (length buffer - done) (drop skip (a ++ b)), length-drop skip (a ++ b), length-append a b)

  both_done : done + length (take (length buffer - done) (drop skip (a ++ b))) ≡ done + length here + length there
  both_done = rw (both_length, there_length, room_split (length buffer - done) skip (length a) (length b), here_length) (omega arith)

  both_put : put done (take (length buffer - done) (drop skip (a ++ b))) buffer ≡ put (done + length here) there (put done here buffer)
  unfolding here there
  both_put =
      let e : done + length here ≡ done + min (length a - skip) (length buffer - done) = omega (arith, here_length) in
      sym (ap (λ (n : ℕ). put (done + length here) (take (n - (done + length here)) (drop (skip - length a) b)) (put done here buffer)) long
      ∙ put_two (length buffer) done skip (length a) (done + length here) (skip - length a) a b buffer (put done here buffer) refl h refl e refl)

pub poured_append : (a b : Bytes) (w : Window) → poured (a ++ b) w ≡ poured b (poured a w)
unfolding poured shown here there
poured_append a b w = elim (dec_le (length w.buffer) w.done) [
  | yes h ↦ poured_full (a ++ b) w h ∙ passed_append a b w ∙ sym (ap (poured b) (poured_full a w h) ∙ poured_full b (passed a w) h)
  | no h ↦
      let e : w.skip - length (a ++ b) ≡ w.skip - length a - length b = omega (arith, length-append a b) in
      let l : w.done ≤ length w.buffer = omega arith in
      λ i. record {
        skip = e i;
        done = both_done a b w.skip w.done w.buffer l i;
        buffer = both_put a b w.skip w.done w.buffer l i;
      }
]

-- the text t was poured, and then a piece v
pub poured_next : (t v : Bytes) (w : Window) {w₁ w₂ : Window} → w₁ ≡ poured t w → w₂ ≡ poured v w₁ → w₂ ≡ poured (t ++ v) w
poured_next t v w e₁ e₂ = e₂ ∙ ap (poured v) e₁ ∙ sym (poured_append t v w)

-- a text poured into a new window
pub first_window : (v : Bytes) (from : ℕ) (buffer : Bytes)
    → poured v (record { skip = from; done = 0; buffer = buffer })
    ≡ record { skip = from - length v; done = length (take (length buffer) (drop from v)); buffer = put 0 (take (length buffer) (drop from v)) buffer }
unfolding poured shown
first_window v from buffer =
    ap {B = Window} (λ (n : ℕ). record { skip = from - length v; done = 0 + length (take n (drop from v)); buffer = put 0 (take n (drop from v)) buffer }) (sub-zero (length buffer))
    ∙ λ i. record { skip = from - length v; done = zero-add (length (take (length buffer) (drop from v))) i; buffer = put 0 (take (length buffer) (drop from v)) buffer }
