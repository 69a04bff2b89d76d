-- A list with another written over it from a position: it is the head, what was written and the rest, so it is cut at those two seams.
-- `put` of specs/Bytes is this with its arguments in another order.
use mathlib.Core.Path.{◌≡◌, refl, sym, ap, ◌∙◌}
use mathlib.Core.List.{List, [], ◌∷◌, ◌++◌, append_assoc, append-nil}
use Prim.Native.Nat.{ℕ, zero, suc, ◌+◌, ◌-◌, ◌≤◌, ◌<◌, max}
use native.Mathlib.Nat.{add-zero, sub-zero, zero-sub, suc-sub-suc}
use native.Mathlib.Omega.{arith}
use lib.ListN.{length, get_or, take, drop, length-append, length-drop, take-append-drop, get_or-append}
use lib.Seq.{length-take-le, take-append-le, drop-append-le, take-append-add, drop-append-add, take_at, drop-drop, take-take, get_or-append-add, get_or-take, get_or-drop, take-nil, take-length, paste}

module _ {A : Type 0} where
  -- xs with ys written over it from position at on (at ≤ length xs)
  abbrev pub splice : List A → ℕ → List A → List A
  splice xs at ys = take at xs ++ ys ++ drop (at + length ys) xs

  pub splice_nil : (xs : List A) (at : ℕ) → splice xs at [] ≡ xs
  splice_nil xs at = ap (λ (n : ℕ). take at xs ++ [] ++ drop n xs) (add-zero at) ∙ ap (λ (r : List A). r ++ drop at xs) (append-nil (take at xs)) ∙ take-append-drop at xs

  -- what a loop that copies all of ys leaves (`paste` of `lib.Seq`)
  pub paste_splice : (xs : List A) (at : ℕ) (ys : List A) → paste xs at ys (length ys) ≡ splice xs at ys
  paste_splice xs at ys = ap (λ (r : List A). take at xs ++ r ++ drop (at + length ys) xs) (take-length ys)

  module _ (xs : List A) (at : ℕ) (ys : List A) (h : at ≤ length xs) where
    head_length : length (take at xs ++ ys) ≡ at + length ys
    head_length = simp (length-append, length-take-le) refl

    pub length_splice : length (splice xs at ys) ≡ max (length xs) (at + length ys)
    length_splice = omega (arith, length-append (take at xs ++ ys) (drop (at + length ys) xs), head_length, length-drop (at + length ys) xs)

    pub take_splice_head : take (at + length ys) (splice xs at ys) ≡ take at xs ++ ys
    take_splice_head = take_at (take at xs ++ ys) (drop (at + length ys) xs) (at + length ys) head_length

    pub drop_splice : (n : ℕ) → drop (at + length ys + n) (splice xs at ys) ≡ drop (at + length ys + n) xs
    drop_splice n =
        ap (λ (k : ℕ). drop (k + n) (splice xs at ys)) (sym head_length)
        ∙ drop-append-add (take at xs ++ ys) (drop (at + length ys) xs) n
        ∙ drop-drop n (at + length ys) xs

    -- a second write that goes on where the first one ended
    pub splice_splice : (zs : List A) → splice (splice xs at ys) (at + length ys) zs ≡ splice xs at (ys ++ zs)
    splice_splice zs =
        ap (λ (r : List A). r ++ zs ++ drop (at + length ys + length zs) (splice xs at ys)) take_splice_head
        ∙ ap (λ (r : List A). take at xs ++ ys ++ zs ++ r) (drop_splice (length zs))
        ∙ ap (λ (r : List A). r ++ drop (at + length ys + length zs) xs) (append_assoc (take at xs) ys zs)
        ∙ ap (λ (n : ℕ). take at xs ++ (ys ++ zs) ++ drop n xs) len
      where
        len : at + length ys + length zs ≡ at + length (ys ++ zs)
        len = omega (arith, length-append ys zs)

  pub splice_length_in : (xs : List A) (at : ℕ) (ys : List A) → at + length ys ≤ length xs → length (splice xs at ys) ≡ length xs
  splice_length_in xs at ys h = omega (arith, length_splice xs at ys (omega arith))

  -- a write on the second or on the first of two parts
  pub splice_right : (xs ys : List A) (at : ℕ) (zs : List A) → splice (xs ++ ys) (length xs + at) zs ≡ xs ++ splice ys at zs
  splice_right xs ys at zs =
      let a : take (length xs + at) (xs ++ ys) ≡ xs ++ take at ys = take-append-add xs ys at in
      let n : length xs + at + length zs ≡ length xs + (at + length zs) = omega arith in
      let b : drop (length xs + at + length zs) (xs ++ ys) ≡ drop (at + length zs) ys = ap (λ (k : ℕ). drop k (xs ++ ys)) n ∙ drop-append-add xs ys (at + length zs) in
      rw (a, b) (simp append_assoc)

  pub splice_left : (xs ys : List A) (at : ℕ) (zs : List A) → at + length zs ≤ length xs → splice (xs ++ ys) at zs ≡ splice xs at zs ++ ys
  splice_left xs ys at zs h =
      let a : take at (xs ++ ys) ≡ take at xs = take-append-le at xs ys (omega arith) in
      let b : drop (at + length zs) (xs ++ ys) ≡ drop (at + length zs) xs ++ ys = drop-append-le (at + length zs) xs ys h in
      rw (a, b) (simp append_assoc)

  pub drop_take : (m n : ℕ) (l : List A) → drop m (take n l) ≡ take (n - m) (drop m l)
  drop_take zero n l = ap (λ (k : ℕ). take k l) (sym (sub-zero n))
  drop_take (suc m) zero l = ap (λ (k : ℕ). take k (drop (suc m) l)) (sym (zero-sub (suc m)))
  drop_take (suc m) (suc n) [] = sym (take-nil (suc n - suc m))
  drop_take (suc m) (suc n) (x ∷ xs) = drop_take m n xs ∙ ap (λ (k : ℕ). take k (drop m xs)) (sym (suc-sub-suc n m))

  -- the first `size` are in use, and a write may go past them: it is the write on what is in use
  pub splice_take : (xs : List A) (size at : ℕ) (ys : List A) → at ≤ size → size ≤ length xs
      → take (max size (at + length ys)) (splice xs at ys) ≡ splice (take size xs) at ys
  splice_take xs size at ys h k =
      let e : ℕ = at + length ys in
      let p : List A = take at xs ++ ys in
      let len : length p ≡ e = head_length xs at ys (omega arith) in
      let n : max size e ≡ length p + (size - e) = omega arith in
      let a : take at (take size xs) ≡ take at xs = take-take at size xs h in
      ap (λ (m : ℕ). take m (p ++ drop e xs)) n
      ∙ take-append-add p (drop e xs) (size - e)
      ∙ ap (λ (r : List A). p ++ r) (sym (drop_take e size xs))
      ∙ ap (λ (r : List A). r ++ ys ++ drop e (take size xs)) (sym a)

  -- by index
  module _ (xs : List A) (at : ℕ) (ys : List A) (h : at ≤ length xs) (d : A) where
    pub get_d_splice_before : (i : ℕ) → i < at → get_or (splice xs at ys) i d ≡ get_or xs i d
    get_d_splice_before i l =
        get_or-append (take at xs ++ ys) (drop (at + length ys) xs) d i (omega (arith, head_length xs at ys h))
        ∙ get_or-append (take at xs) ys d i (omega (arith, length-take-le at xs h))
        ∙ get_or-take at xs i d l

    pub get_d_splice_in : (i : ℕ) → i < length ys → get_or (splice xs at ys) (at + i) d ≡ get_or ys i d
    get_d_splice_in i l =
        get_or-append (take at xs ++ ys) (drop (at + length ys) xs) d (at + i) (omega (arith, head_length xs at ys h))
        ∙ ap (λ (n : ℕ). get_or (take at xs ++ ys) (n + i) d) (sym (length-take-le at xs h))
        ∙ get_or-append-add (take at xs) ys i d

    pub get_d_splice_after : (i : ℕ) → get_or (splice xs at ys) (at + length ys + i) d ≡ get_or xs (at + length ys + i) d
    get_d_splice_after i =
        ap (λ (n : ℕ). get_or (splice xs at ys) (n + i) d) (sym (head_length xs at ys h))
        ∙ get_or-append-add (take at xs ++ ys) (drop (at + length ys) xs) i d
        ∙ get_or-drop (at + length ys) xs i d
