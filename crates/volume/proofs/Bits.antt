-- Bits of a number: to halve it moves them all down by one, so each fact goes by induction on the bit's place.
use mathlib.Core.Path.{◌≡◌, sym, ap, ◌∙◌}
use mathlib.Core.Logic.{inl, inr}
use Prim.Native.Nat.{ℕ, zero, suc, ◌+◌, ◌-◌, ◌*◌, ◌/◌, ◌%◌, ◌^◌, ◌≤◌, ◌<◌}
use native.Mathlib.Nat.{pow-suc, div-one}
use native.Mathlib.Omega.{arith}
use lib.Pow.{shr-shr}
use Rattle.volume.specs.Bytes.{bit}
use Rattle.volume.proofs.Occ.{hit, hit_refl, hit_ne, hit_cases}

pub bit_zero : (x : ℕ) → bit 0 x ≡ x % 2
bit_zero x = ap (λ (y : ℕ). y % 2) (div-one x)

pub bit_suc : (i x : ℕ) → bit (suc i) x ≡ bit i (x / 2)
bit_suc i x = let e : suc i ≡ 1 + i = omega arith in ap (λ (k : ℕ). x / 2 ^ k % 2) e ∙ ap (λ (y : ℕ). y % 2) (sym (shr-shr x 1 i))

hit_suc : (i j : ℕ) → hit (suc i) (suc j) ≡ hit i j
hit_suc i j = elim (hit_cases i j) [
  | inl c ↦ omega (arith, c.1, hit_refl (suc j), ap (λ (k : ℕ). hit (suc k) (suc j)) c.0)
  | inr c ↦ omega (arith, c.1, hit_ne (suc i) (suc j) (omega (arith, c.0)))
]

-- a bit that is 0 is set
pub bit_set : (j x i : ℕ) → bit j x ≡ 0 → bit i (x + 2 ^ j) ≡ bit i x + hit i j
bit_set zero x zero e = omega (arith, bit_zero x, bit_zero (x + 2 ^ 0), hit_refl 0)
bit_set zero x (suc i) e =
    let h : (x + 2 ^ 0) / 2 ≡ x / 2 = omega (arith, bit_zero x) in
    omega (arith, bit_suc i (x + 2 ^ 0), bit_suc i x, ap (bit i) h, hit_ne (suc i) 0 (omega arith))
bit_set (suc j) x zero e = omega (arith, bit_zero x, bit_zero (x + 2 ^ suc j), pow-suc 2 j, hit_ne 0 (suc j) (omega arith))
bit_set (suc j) x (suc i) e =
    let h : (x + 2 ^ suc j) / 2 ≡ x / 2 + 2 ^ j = omega (arith, pow-suc 2 j) in
    omega (arith, bit_suc i (x + 2 ^ suc j), bit_suc i x, ap (bit i) h, bit_set j (x / 2) i (sym (bit_suc j x) ∙ e), hit_suc i j)

-- a bit that is 1 says how large the number is at least
pub bit_le : (j x : ℕ) → bit j x ≡ 1 → 2 ^ j ≤ x
bit_le zero x e = omega (arith, bit_zero x)
bit_le (suc j) x e = omega (arith, bit_le j (x / 2) (sym (bit_suc j x) ∙ e), pow-suc 2 j)

less_even : (x m : ℕ) → m * 2 ≤ x → (x - m * 2) % 2 ≡ x % 2
less_even x m h = omega arith

-- a bit that is 1 is cleared
pub bit_clear : (j x i : ℕ) → bit j x ≡ 1 → bit i (x - 2 ^ j) + hit i j ≡ bit i x
bit_clear zero x zero e = omega (arith, bit_zero x, bit_zero (x - 2 ^ 0), hit_refl 0)
bit_clear zero x (suc i) e =
    let h : (x - 2 ^ 0) / 2 ≡ x / 2 = omega (arith, bit_zero x) in
    omega (arith, bit_suc i (x - 2 ^ 0), bit_suc i x, ap (bit i) h, hit_ne (suc i) 0 (omega arith))
bit_clear (suc j) x zero e =
    let h : (x - 2 ^ suc j) % 2 ≡ x % 2 = ap (λ (n : ℕ). (x - n) % 2) (pow-suc 2 j) ∙ less_even x (2 ^ j) (omega (arith, pow-suc 2 j, bit_le (suc j) x e)) in
    omega (arith, bit_zero x, bit_zero (x - 2 ^ suc j), h, hit_ne 0 (suc j) (omega arith))
bit_clear (suc j) x (suc i) e =
    let h : (x - 2 ^ suc j) / 2 ≡ x / 2 - 2 ^ j = omega (arith, pow-suc 2 j, bit_le (suc j) x e) in
    omega (arith, bit_suc i (x - 2 ^ suc j), bit_suc i x, ap (bit i) h, bit_clear j (x / 2) i (sym (bit_suc j x) ∙ e), hit_suc i j)

-- a number of k bits has k bits with one of them set
pub bit_set_lt : (k j x : ℕ) → j < k → x < 2 ^ k → bit j x ≡ 0 → x + 2 ^ j < 2 ^ k
bit_set_lt zero j x l h e = absurd (omega arith)
bit_set_lt (suc k) zero x l h e = omega (arith, bit_zero x, pow-suc 2 k)
bit_set_lt (suc k) (suc j) x l h e =
    omega (arith, pow-suc 2 k, pow-suc 2 j, bit_set_lt k j (x / 2) (omega arith) (omega (arith, pow-suc 2 k)) (sym (bit_suc j x) ∙ e))
