-- What a put leaves of the other bytes: it is a splice that keeps the length. Outside is said as `i ≤ j → i + n ≤ j`, which omega proves.
use mathlib.Core.Path.{◌≡◌, sym, ap, ◌∙◌}
use Prim.Native.Nat.{ℕ, ◌+◌, ◌-◌, ◌≤◌, ◌<◌}
use native.Mathlib.Omega.{arith}
use native.Mathlib.Decide.{dec_le, dec_lt}
use lib.ListN.{length, take, drop, length-take, length-drop}
use lib.Seq.{ext_get_or, length-take-le, get_or-take, get_or-drop, take-take, drop-drop}
use Rattle.volume.specs.Bytes.{Bytes, byte_at, part, put}
use Rattle.volume.proofs.Splice.{splice_length_in, get_d_splice_before, get_d_splice_in, get_d_splice_after, drop_take}

-- a byte that cannot be inside of a stretch is outside
pub not_inside : (s n i : ℕ) → (s ≤ i → i < s + n → ⊥) → s ≤ i → s + n ≤ i
not_inside s n i bad l = elim (dec_lt i (s + n)) [ yes k ↦ absurd (bad l k) | no k ↦ omega arith ]

module _ (i : ℕ) (v b : Bytes) (h : i + length v ≤ length b) where
  pub put_length : length (put i v b) ≡ length b
  put_length = splice_length_in b i v h

  pub put_out : (j : ℕ) → (i ≤ j → i + length v ≤ j) → byte_at (put i v b) j ≡ byte_at b j
  put_out j k = elim (dec_le i j) [
    | yes l ↦
        let m : i + length v ≤ j = k l in
        let e : j ≡ i + length v + (j - (i + length v)) = omega arith in
        ap (byte_at (put i v b)) e ∙ get_d_splice_after b i v (omega arith) 0 (j - (i + length v)) ∙ ap (byte_at b) (sym e)
    | no l ↦ get_d_splice_before b i v (omega arith) 0 j (omega arith)
  ]

  pub put_in : (j : ℕ) → j < length v → byte_at (put i v b) (i + j) ≡ byte_at v j
  put_in j k = get_d_splice_in b i v (omega arith) 0 j k

-- ---- a part

pub byte_part : (s m i : ℕ) (b : Bytes) → i < m → byte_at (part s m b) i ≡ byte_at b (s + i)
byte_part s m i b h = get_or-take m (drop s b) i 0 h ∙ get_or-drop s b i 0

pub part_part : (s m i n : ℕ) (b : Bytes) → i + n ≤ m → part i n (part s m b) ≡ part (s + i) n b
part_part s m i n b h =
    ap (take n) (drop_take i m (drop s b)) ∙ take-take n (m - i) (drop i (drop s b)) (omega arith) ∙ ap (take n) (drop-drop i s b)

pub part_length : (s n : ℕ) (b : Bytes) → s + n ≤ length b → length (part s n b) ≡ n
part_length s n b h = length-take-le n (drop s b) (omega (arith, length-drop s b))

-- equal bytes make equal parts
pub part_bytes : (s n : ℕ) (b b' : Bytes) → length b' ≡ length b → ((i : ℕ) → s ≤ i → i < s + n → byte_at b' i ≡ byte_at b i) → part s n b' ≡ part s n b
part_bytes s n b b' e h =
    ext_get_or 0 (part s n b') (part s n b)
    (length-take n (drop s b') ∙ omega (arith, length-drop s b', length-drop s b) ∙ sym (length-take n (drop s b)))
    (λ i k.
    let l : i < n = omega (arith, length-take n (drop s b')) in
    byte_part s n i b' l ∙ h (s + i) (omega arith) (omega arith) ∙ sym (byte_part s n i b l))

-- a part outside of a put
pub put_part_out : (i : ℕ) (v b : Bytes) (s n : ℕ) → i + length v ≤ length b → (i < s + n → i + length v ≤ s) → part s n (put i v b) ≡ part s n b
put_part_out i v b s n h k =
    part_bytes s n b (put i v b) (put_length i v b h) (λ j l m.
    put_out i v b h j (λ u. elim (dec_lt i (s + n)) [ yes o ↦ omega (arith, k o) | no o ↦ omega arith ]))
