-- Bytes put into a part of the image that was lent for them: what comes back stands at its place, and an entry is its fields put one behind the other.
use mathlib.Core.Path.{◌≡◌, refl, sym, ap, ◌∙◌}
use Prim.Native.Nat.{ℕ, ◌+◌, ◌-◌, ◌≤◌}
use native.Mathlib.Nat.{add-zero, zero-add}
use native.Mathlib.Omega.{arith}
use mathlib.Core.List.{◌++◌, append-nil}
use lib.ListN.{length, drop, length-drop, drop_of_length-le}
use lib.Seq.{length-take-le}
use borrow.Rule.Slice.PartMut.{mid_of, put_mid}
use Rattle.volume.specs.Bytes.{Bytes, put}
use Rattle.volume.proofs.Splice.{splice_right}
use Rattle.volume.proofs.Lent.{lent_filled}

-- a part lent and filled from its front on
pub lent_put : (at : ℕ) (v b ys : Bytes) → at + length v ≤ length b → ys ≡ put 0 v (mid_of at (at + length v - at) b)
    → put_mid at (at + length v - at) b ys ≡ put at v b
lent_put at v b ys h e =
    lent_filled at (at + length v) at (length v) b ys refl refl h 0 v (omega arith) e ∙ ap (λ (i : ℕ). put i v b) (add-zero at)

-- v put behind x
pub put_behind : (i : ℕ) (x v y : Bytes) → i ≡ length x → put i v (x ++ y) ≡ x ++ (v ++ drop (length v) y)
put_behind i x v y e =
    ap (λ (j : ℕ). put j v (x ++ y)) (e ∙ sym (add-zero (length x))) ∙ splice_right x y 0 v
    ∙ ap (λ (j : ℕ). x ++ (v ++ drop j y)) (zero-add (length v))

-- as long as what was there, so all of it goes
put_all : (v m : Bytes) → length v ≡ length m → put 0 v m ≡ v
put_all v m e = let h : length m ≤ 0 + length v = omega arith in rw (drop_of_length-le m h) (append-nil v)

-- a place lent for an entry, and filled
pub entry_put : (at : ℕ) (v b ys : Bytes) → length v ≡ 32 → at + 32 ≤ length b → ys ≡ v → put_mid at (at + 32 - at) b ys ≡ put at v b
entry_put at v b ys l h e =
    let k : at + length v - at ≡ length v = omega arith in
    let room : length v ≤ length (drop at b) = omega (arith, length-drop at b) in
    let m : length v ≡ length (mid_of at (at + length v - at) b) = sym (rw k (length-take-le (length v) (drop at b) room)) in
    rw (← l) (lent_put at v b ys (omega arith) (e ∙ sym (put_all v _ m)))
