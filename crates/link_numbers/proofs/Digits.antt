-- The digits of an accession, the last one first.
use mathlib.Core.Path.{◌≡◌, refl, ap, ◌∙◌}
use Prim.Native.Nat.{ℕ, zero, suc, ◌+◌, ◌-◌, ◌/◌, ◌%◌, ◌≤◌, ◌<◌}
use native.Mathlib.Omega.{arith}
use mathlib.Core.List.{[], ◌∷◌}
use lib.ListN.{length, set, length-append}
use Rattle.volume.specs.Bytes.{Bytes, put}
use Rattle.link_list.specs.Coding.{accession}
use Rattle.link_numbers.proofs.Puts.{put_nil, put_snoc}

accession_long : (k n : ℕ) → length (accession k n) ≡ k
unfolding accession
accession_long zero n = refl
accession_long (suc k) n = let l = accession_long k (n / 10) in omega (arith, l, length-append (accession k (n / 10)) ((48 + n % 10) ∷ []))

pub digits_turn : (at left n : ℕ) (b : Bytes) → 0 < left → at + left ≤ length b
    → put at (accession left n) b ≡ put at (accession (left - 1) (n / 10)) (set b (at + (left - 1)) (48 + n % 10))
unfolding accession
digits_turn at left n b h l =
    let e : left ≡ suc (left - 1) = omega arith in
    let k = accession_long (left - 1) (n / 10) in
    ap (λ (m : ℕ). put at (accession m n) b) e
    ∙ put_snoc at (accession (left - 1) (n / 10)) (48 + n % 10) b (omega (arith, k))
    ∙ ap (λ (m : ℕ). put at (accession (left - 1) (n / 10)) (set b (at + m) (48 + n % 10))) k

pub digits_end : (at left n : ℕ) (b : Bytes) → left ≤ 0 → put at (accession left n) b ≡ b
unfolding accession
digits_end at left n b h = let e : left ≡ 0 = omega arith in rw e (put_nil at b)
