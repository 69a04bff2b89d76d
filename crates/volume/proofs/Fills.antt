-- The loops that write a part, a byte a turn: zeros from the front on, and a copy from an offset on (`paste` of `lib.Seq`).
use mathlib.Core.Path.{◌≡◌, sym, ap, ◌∙◌}
use Prim.Native.Nat.{ℕ, ◌+◌, ◌≤◌, ◌<◌}
use native.Mathlib.Numerals.{add-one}
use native.Mathlib.Omega.{arith}
use mathlib.Core.List.{◌++◌, append-nil}
use lib.ListN.{length, get_or, set, drop, drop_of_length-le, length-replicate}
use lib.Seq.{paste, paste-suc}
use borrow.Author.Fill.{fill_none, fill_more}
use Rattle.volume.specs.Bytes.{Bytes, put, zeros}
use Rattle.volume.proofs.Splice.{paste_splice}

pub length_zeros : (n : ℕ) → length (zeros n) ≡ n
unfolding zeros
length_zeros n = length-replicate {A = ℕ} n 0

-- d with its first n bytes zeroed
abbrev pub zeroed : Bytes → ℕ → Bytes
zeroed d n = zeros n ++ drop n d

pub zeroed_none : (d : Bytes) → d ≡ zeroed d 0
unfolding zeros
zeroed_none d = fill_none d 0

pub zeroed_turn : (n : ℕ) (d r : Bytes) → r ≡ zeroed d n → n < length d → set r n 0 ≡ zeroed d (n + 1)
unfolding zeros
zeroed_turn n d r e h = ap (λ (x : Bytes). set x n 0) e ∙ fill_more n 0 d h

pub zeroed_all : (n : ℕ) (d r : Bytes) → r ≡ zeroed d n → n ≡ length d → r ≡ zeros (length d)
zeroed_all n d r e k =
    let h : length d ≤ n = omega arith in
    e ∙ ap (λ (x : Bytes). zeros n ++ x) (drop_of_length-le d h) ∙ append-nil (zeros n) ∙ ap zeros k

-- n bytes of s copied to d from `at` on, and r is what that made
module _ (d : Bytes) (at : ℕ) (s : Bytes) (n : ℕ) (r : Bytes) (e : r ≡ paste d at s n) where
  pub paste_turn : at + n < length d → n < length s → set r (at + n) (get_or s n 0) ≡ paste d at s (n + 1)
  paste_turn h k = ap (λ (x : Bytes). set x (at + n) (get_or s n 0)) e ∙ paste-suc d at s n 0 h k ∙ ap (paste d at s) (sym (add-one n))

  pub paste_all : n ≡ length s → r ≡ put at s d
  paste_all k = e ∙ ap (paste d at s) k ∙ paste_splice d at s
