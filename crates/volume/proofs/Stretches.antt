-- Cuts of lists that the library lacks: across a seam, and longer than the list.
use mathlib.Core.Path.{◌≡◌, sym, ap, ◌∙◌}
use Prim.Native.Nat.{ℕ, zero, suc, ◌+◌, ◌-◌, ◌≤◌, min}
use native.Mathlib.Nat.{sub-zero, zero-sub, suc-sub-suc}
use native.Mathlib.Omega.{arith}
use native.Mathlib.Decide.{dec_le}
use mathlib.Core.List.{[], ◌∷◌, ◌++◌}
use lib.ListN.{length, take, drop, length-take, length-drop, drop_of_length-le}
use lib.Seq.{take_all, drop-drop}
use Rattle.volume.specs.Bytes.{Bytes, put}
use Rattle.volume.proofs.Splice.{splice_splice}

take_append : (n : ℕ) (xs ys : Bytes) → take n (xs ++ ys) ≡ take n xs ++ take (n - length xs) ys
take_append zero xs ys = ap (λ (m : ℕ). take m ys) (sym (zero-sub (length xs)))
take_append (suc n) [] ys = ap (λ (m : ℕ). take m ys) (sym (sub-zero (suc n)))
take_append (suc n) (x ∷ xs) ys = ap (λ (r : Bytes). x ∷ r) (take_append n xs ys ∙ ap (λ (m : ℕ). take n xs ++ take m ys) (sym (suc-sub-suc n (length xs))))

drop_append : (n : ℕ) (xs ys : Bytes) → drop n (xs ++ ys) ≡ drop n xs ++ drop (n - length xs) ys
drop_append zero xs ys = ap (λ (m : ℕ). xs ++ drop m ys) (sym (zero-sub (length xs)))
drop_append (suc n) [] ys = ap (λ (m : ℕ). drop m ys) (sym (sub-zero (suc n)))
drop_append (suc n) (x ∷ xs) ys = drop_append n xs ys ∙ ap (λ (m : ℕ). drop n xs ++ drop m ys) (sym (suc-sub-suc n (length xs)))

-- no more is taken or dropped than there is
pub take_min : (r m : ℕ) (w : Bytes) → m ≡ min r (length w) → take m w ≡ take r w
take_min r m w e = elim (dec_le r (length w)) [
  | yes h ↦ let u : m ≡ r = omega arith in ap (λ (n : ℕ). take n w) u
  | no h ↦ take_all m w (omega arith) ∙ sym (take_all r w (omega arith))
]

pub drop_min : (r m d : ℕ) (w : Bytes) → m ≡ min r (length w - d) → d ≤ length w → drop (d + m) w ≡ drop r (drop d w)
drop_min r m d w e k = elim (dec_le r (length w - d)) [
  | yes h ↦ let u : d + m ≡ d + r = omega arith in ap (λ (n : ℕ). drop n w) u ∙ sym (drop-drop r d w)
  | no h ↦ let a : length w ≤ d + m = omega arith in
      let b : length (drop d w) ≤ r = omega (arith, length-drop d w) in
      drop_of_length-le w a ∙ sym (drop_of_length-le (drop d w) b)
]

-- n bytes from place `at` of x and then y are those of x, and what is wanting of y
cut_two : (n at : ℕ) (x y : Bytes) → take n (drop at (x ++ y)) ≡ take n (drop at x) ++ take (n - length (drop at x)) (drop (at - length x) y)
cut_two n at x y = ap (take n) (drop_append at x y) ∙ take_append n (drop at x) (drop (at - length x) y)

left_of : (c d u n : ℕ) → u ≡ min (c - d) n → c - (d + u) ≡ c - d - n
left_of c d u n e = omega arith

-- they are put in two pieces: d' has those of x, and done' and at' are where it goes on
pub put_two : (count done at r done' at' : ℕ) (x y d d' : Bytes) → length x ≡ r → done ≤ length d → d' ≡ put done (take (count - done) (drop at x)) d
    → done' ≡ done + min (r - at) (count - done) → at' ≡ at - r
    → put done' (take (count - done') (drop at' y)) d' ≡ put done (take (count - done) (drop at (x ++ y))) d
put_two count done at r done' at' x y d d' lx h ed e eat =
    let u : Bytes = take (count - done) (drop at x) in
    let lu : length u ≡ min (count - done) (length (drop at x)) = length-take (count - done) (drop at x) in
    let here : done' ≡ done + length u = omega (arith, length-drop at x) in
    let there : at' ≡ at - length x = omega arith in
    let more : count - (done + length u) ≡ count - done - length (drop at x) = left_of count done (length u) (length (drop at x)) lu in
    ap (λ (w : Bytes). put done' (take (count - done') (drop at' y)) w) ed
    ∙ ap (λ (i : ℕ). put i (take (count - i) (drop at' y)) (put done u d)) here
    ∙ ap (λ (i : ℕ). put (done + length u) (take (count - (done + length u)) (drop i y)) (put done u d)) there
    ∙ ap (λ (i : ℕ). put (done + length u) (take i (drop (at - length x) y)) (put done u d)) more
    ∙ splice_splice d done u h (take (count - done - length (drop at x)) (drop (at - length x) y))
    ∙ ap (λ (w : Bytes). put done w d) (sym (cut_two (count - done) at x y))
