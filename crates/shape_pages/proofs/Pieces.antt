-- A copy in pieces: one that goes on where the last ended makes both one, and an array copied to, or put to, has in front what was copied.
use mathlib.Core.Path.{◌≡◌, sym, ap, ◌∙◌}
use Prim.Native.Nat.{ℕ, ◌+◌, ◌-◌, ◌≤◌, ◌<◌}
use native.Mathlib.Nat.{zero-add, sub-zero}
use native.Mathlib.Omega.{arith}
use mathlib.Core.List.{◌++◌, append-nil}
use lib.ListN.{length, get_or, set, take, drop, drop_of_length-le}
use lib.Seq.{paste, take-add, take_all, take-append_seam, length-take-le}
use Rattle.volume.specs.Bytes.{Bytes, put}
use Rattle.volume.proofs.Splice.{splice_nil, splice_splice}
use Rattle.volume.proofs.Fills.{paste_turn, paste_all}

-- ---- n bytes of s copied to the front of d, and r is what that made

module _ (d s : Bytes) (n : ℕ) (r : Bytes) (e : r ≡ paste d 0 s n) where
  pub front_turn : n < length d → n < length s → set r n (get_or s n 0) ≡ paste d 0 s (n + 1)
  front_turn h k = ap (λ (j : ℕ). set r j (get_or s n 0)) (sym (zero-add n)) ∙ paste_turn d 0 s n r e (omega arith) k

  pub front_all : n ≡ length s → length d ≡ length s → r ≡ s
  front_all k l =
      paste_all d 0 s n r e k
      ∙ ap (λ (w : Bytes). s ++ w) (drop_of_length-le d {i = 0 + length s} (omega arith)) ∙ append-nil s

-- ---- s put to the front of an array w₀, and as many bytes of what that made put into d

pub front_put : (o : ℕ) (s w₀ w d r : Bytes) → w ≡ put 0 s w₀ → r ≡ put o (take (length s - 0) (drop 0 w)) d → r ≡ put o s d
front_put o s w₀ w d r ew er =
    let front : take (length s - 0) w ≡ s = ap (λ (n : ℕ). take n w) (sub-zero (length s)) ∙ ap (take (length s)) ew ∙ take-append_seam s (drop (0 + length s) w₀) in
    er ∙ ap (λ (v : Bytes). put o v d) front

-- ---- the first i bytes of s put into d, and then n more

pub put_none : (o : ℕ) (s d : Bytes) → d ≡ put o (take 0 s) d
put_none o s d = sym (splice_nil d o)

module _ (o i n j : ℕ) (s d r r' : Bytes) (er : r ≡ put o (take i s) d) (hi : i ≤ length s) (ho : o ≤ length d)
    (er' : r' ≡ put (o + i) (take n (drop i s)) r) (ej : j ≡ i + n) where
  pub put_next : r' ≡ put o (take j s) d
  put_next =
      let here : o + i ≡ o + length (take i s) = omega (arith, length-take-le i s hi) in
      er' ∙ ap (put (o + i) (take n (drop i s))) er
      ∙ ap (λ (m : ℕ). put m (take n (drop i s)) (put o (take i s) d)) here
      ∙ splice_splice d o (take i s) ho (take n (drop i s))
      ∙ ap (λ (w : Bytes). put o w d) (sym (take-add i n s) ∙ ap (λ (m : ℕ). take m s) (sym ej))

  pub put_last : j ≡ length s → r' ≡ put o s d
  put_last k = put_next ∙ ap (λ (w : Bytes). put o w d) (take_all j s (omega arith))
