-- A name behind flags that are not 0 is legal exactly if each of its bytes may follow the one before, and the first is no zero.
use mathlib.Core.Path.{◌≡◌, refl, sym, ap, ◌∙◌}
use mathlib.Core.Bool.{Bool, true, false, not, ◌&&◌, ◌||◌, and-true}
use Prim.Native.Nat.{ℕ, zero, suc, ◌+◌, ◌-◌, ◌≤◌, ◌<◌}
use native.Mathlib.Omega.{arith}
use native.Mathlib.Decide.{dec_lt}
use mathlib.Core.List.{[], ◌∷◌}
use lib.ListN.{length, take, drop}
use lib.Dec.{eqb, leb}
use borrow.Author.Tests.{ne_eqb}
use Rattle.volume.specs.Bytes.{Bytes, byte_at}
use Rattle.volume.specs.Lists.{all}
use Rattle.model.specs.Entry.{name_at}
use Rattle.model.specs.Name.{legal_byte, legal_rest, legal_name}
use Rattle.names.specs.Names.{may_follow}
use Rattle.names.proofs.Steps.{byte_next, and_false}

-- the tests of the code; r is what they say
pub follow_tests : (before c : ℕ) (r : Bool) → r ≡ (eqb c 0 || (((leb 0x20 c && leb c 0x7E) && not (eqb c 0x2F)) && not (eqb before 0)))
    → r ≡ may_follow before c
unfolding may_follow legal_byte all
follow_tests before c r e = e ∙ go (leb 0x20 c) (leb c 0x7E) (not (eqb c 0x2F))
  where
    go : (x y z : Bool) → (eqb c 0 || (((x && y) && z) && not (eqb before 0))) ≡ (eqb c 0 || ((x && (y && (z && true))) && not (eqb before 0)))
    go true true true = refl
    go true true false = refl
    go true false z = refl
    go false y z = refl

-- ---- bytes behind a byte p

unfoldable behind : ℕ → Bytes → Bool
behind p [] = true
behind p (c ∷ r) = may_follow p c && behind c r

zeros_behind : (r : Bytes) → behind 0 r ≡ all (eqb 0) r
unfolding may_follow all behind
zeros_behind [] = refl
zeros_behind (c ∷ r) = elim (dec_lt 0 c) [
  | yes h ↦ rw (ne_eqb c 0 (λ e. omega arith), ne_eqb 0 c (λ e. omega arith), and_false (legal_byte c))
  | no h ↦ let e : c ≡ 0 = omega arith in rw e (zeros_behind r)
]

rest_behind : (p : ℕ) → 1 ≤ p → (r : Bytes) → behind p r ≡ legal_rest r
unfolding may_follow legal_rest behind
rest_behind p h [] = refl
rest_behind p h (c ∷ r) = elim (dec_lt 0 c) [
  | yes g ↦ rw (ne_eqb c 0 (λ e. omega arith), ne_eqb p 0 (λ e. omega arith), and-true (legal_byte c), rest_behind c g r)
  | no g ↦ let e : c ≡ 0 = omega arith in rw e (zeros_behind r)
]

name_behind : (p c : ℕ) → 1 ≤ p → (r : Bytes) → (behind p (c ∷ r) && not (eqb c 0)) ≡ legal_name (c ∷ r)
unfolding may_follow legal_name legal_byte all behind
name_behind p c h r = elim (dec_lt 0 c) [
  | yes g ↦ rw (ne_eqb c 0 (λ e. omega arith), ne_eqb p 0 (λ e. omega arith), and-true (legal_byte c), and-true (legal_byte c && behind c r), rest_behind c g r)
  | no g ↦ let e : c ≡ 0 = omega arith in rw (e, and_false (behind p (0 ∷ r)))
]

-- ---- in an image

-- the n bytes behind position `at` may each follow the one before
unfoldable pub follow : Bytes → (at n : ℕ) → Bool
follow b at zero = true
follow b at (suc n) = may_follow (byte_at b at) (byte_at b (at + 1)) && follow b (at + 1) n

follow_behind : (b : Bytes) (at n : ℕ) → at + n < length b → follow b at n ≡ behind (byte_at b at) (take n (drop (at + 1) b))
unfolding follow behind
follow_behind b at zero h = refl
follow_behind b at (suc n) h = rw (byte_next b (at + 1) (omega arith)) (ap (λ (t : Bool). may_follow (byte_at b at) (byte_at b (at + 1)) && t) (follow_behind b (at + 1) n (omega arith)))

pub follow_first : (b : Bytes) (at : ℕ) → follow b at 16 ≡ (true && follow b (at + 0) (16 - 0))
follow_first b at = let e : at + 0 ≡ at = omega arith in rw e

-- f is what the bytes before k say of the name at `at`
module _ (b : Bytes) (at k : ℕ) (f : Bool) (so_far : follow b at 16 ≡ (f && follow b (at + k) (16 - k))) where
  next : k < 16 → follow b (at + k) (16 - k) ≡ (may_follow (byte_at b (at + k)) (byte_at b (at + 1 + k)) && follow b (at + (k + 1)) (16 - (k + 1)))
  unfolding follow
  next h =
      let n : 16 - k ≡ suc (16 - (k + 1)) = omega arith in
      let i : at + 1 + k ≡ at + k + 1 = omega arith in
      let j : at + (k + 1) ≡ at + k + 1 = omega arith in
      rw (n, i, j)

  -- r is the answer for byte k
  pub follow_on : k < 16 → (r : Bool) → r ≡ may_follow (byte_at b (at + k)) (byte_at b (at + 1 + k))
      → follow b at 16 ≡ ((f && r) && follow b (at + (k + 1)) (16 - (k + 1)))
  follow_on h r e = so_far ∙ turn f
    where
      turn : (g : Bool) → (g && follow b (at + k) (16 - k)) ≡ ((g && r) && follow b (at + (k + 1)) (16 - (k + 1)))
      turn true = rw e (next h)
      turn false = refl

  all_of : 16 ≤ k → f ≡ follow b at 16
  unfolding follow
  all_of h = let e : 16 - k ≡ 0 = omega arith in sym (so_far ∙ rw e (and-true f))

  pub follow_all : at + 32 ≤ length b → 1 ≤ byte_at b at → 16 ≤ k → (f && not (eqb (byte_at b (at + 1)) 0)) ≡ legal_name (name_at b at)
  follow_all fits flags h = rw (all_of h, follow_behind b at 16 (omega arith), byte_next b (at + 1) (omega arith))
      (name_behind (byte_at b at) (byte_at b (at + 1)) flags (take 15 (drop (at + 1 + 1) b)))
