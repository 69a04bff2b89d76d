-- A part that was lent and came back: it stands where it stood, so what was put into it was put into the whole.
use mathlib.Core.Path.{◌≡◌, sym, ap, ◌∙◌}
use Prim.Native.Nat.{ℕ, ◌+◌, ◌-◌, ◌≤◌}
use native.Mathlib.Omega.{arith}
use mathlib.Core.List.{◌++◌, append_assoc}
use lib.ListN.{length, take, drop, length-drop, take-append-drop}
use lib.Seq.{drop-drop, length-take-le}
use borrow.Rule.Slice.PartMut.{mid_of, put_mid}
use Rattle.volume.specs.Bytes.{Bytes, put, zeros}
use Rattle.volume.proofs.Splice.{splice_left, splice_right}
use Rattle.volume.proofs.Fills.{length_zeros}

-- the n bytes from a on were lent, and ys came back
whole : (a n : ℕ) (xs ys : Bytes) → length ys ≡ n → put_mid a n xs ys ≡ put a ys xs
whole a n xs ys e =
    sym (append_assoc (take a xs) ys (drop n (drop a xs)))
    ∙ ap (λ (r : Bytes). take a xs ++ ys ++ r) (drop-drop n a xs ∙ ap (λ (m : ℕ). drop (a + m) xs) (sym e))

-- the same with v put into them
inner : (a n : ℕ) (xs : Bytes) (j : ℕ) (v : Bytes) → a + n ≤ length xs → j + length v ≤ n → put_mid a n xs (put j v (mid_of a n xs)) ≡ put (a + j) v xs
inner a n xs j v h k =
    sym (ap (λ (r : Bytes). put (a + j) v r) (sym (take-append-drop a xs))
    ∙ ap (λ (m : ℕ). put (m + j) v (take a xs ++ drop a xs)) (sym (length-take-le a xs (omega arith)))
    ∙ splice_right (take a xs) (drop a xs) j v
    ∙ ap (λ (r : Bytes). take a xs ++ put j v r) (sym (take-append-drop n (drop a xs)))
    ∙ ap (λ (r : Bytes). take a xs ++ r) (splice_left (mid_of a n xs) (drop n (drop a xs)) j v fits))
  where
    fits : j + length v ≤ length (mid_of a n xs)
    fits = omega (arith, length-take-le n (drop a xs) (omega (arith, length-drop a xs)))

-- the part from a to e, as a call has left it; s is what a was worked out to be
module _ (a e s n : ℕ) (xs ys : Bytes) (ha : a ≡ s) (he : e ≡ a + n) (h : e ≤ length xs) where
  many : e - a ≡ n
  many = omega arith

  pub lent_zeroed : ys ≡ zeros (length (mid_of a (e - a) xs)) → put_mid a (e - a) xs ys ≡ put s (zeros n) xs
  lent_zeroed z =
      let len : length (mid_of a (e - a) xs) ≡ n = length-take-le (e - a) (drop a xs) (omega (arith, length-drop a xs)) ∙ many in
      ap (put_mid a (e - a) xs) (z ∙ ap zeros len) ∙ whole a (e - a) xs (zeros n) (length_zeros n ∙ sym many)
      ∙ ap (λ (i : ℕ). put i (zeros n) xs) ha

  pub lent_filled : (j : ℕ) (v : Bytes) → j + length v ≤ n → ys ≡ put j v (mid_of a (e - a) xs) → put_mid a (e - a) xs ys ≡ put (s + j) v xs
  lent_filled j v k z =
      ap (put_mid a (e - a) xs) z ∙ inner a (e - a) xs j v (omega arith) (omega arith)
      ∙ ap (λ (i : ℕ). put (i + j) v xs) ha
