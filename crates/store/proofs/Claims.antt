-- A claim, step by step as the code does it: byte 3 is none of the bitmap's, and what is left to be claimed leads where the whole does.
use mathlib.Core.Path.{◌≡◌, refl, sym, ap, ap₂, ◌∙◌}
use Prim.Native.Nat.{ℕ, zero, suc, ◌+◌, ◌-◌, ◌/◌, ◌≤◌, ◌<◌}
use native.Mathlib.Nat.{sub-zero}
use native.Mathlib.Omega.{arith}
use lib.ListN.{length, set, length-set}
use lib.Seq.{get_or-set_same, get_or-set_other}
use Rattle.volume.specs.Bytes.{Bytes, byte_at}
use Rattle.volume.specs.Geometry as On
use Rattle.volume.proofs.Marks.{mark_out, mark_length, mark_count, zeros_cong, bit_byte, lowest_free_lem}
use Rattle.model.specs.Layout.{version1}
use Rattle.store_laws.specs.Claim.{claim, claimed, page_after}

module _ (p : ℕ) (b r : Bytes) (e : r ≡ On.mark version1 p b) where
  pub count_kept : byte_at r 3 ≡ byte_at b 3
  count_kept = ap (λ (d : Bytes). byte_at d 3) e ∙ mark_out version1 p b 3 (λ u. omega (arith, u))

  pub claim_stored : (q : ℕ) → p ≡ q → set r 3 (byte_at r 3 - 1) ≡ claim q b
  unfolding claim
  claim_stored q s = ap₂ {C = Bytes} (λ (d : Bytes) (n : ℕ). set d 3 (n - 1)) e count_kept ∙ ap (λ (x : ℕ). set (On.mark version1 x b) 3 (byte_at b 3 - 1)) s

claim_long : (p : ℕ) (h : Bytes) → length (claim p h) ≡ length h
unfolding claim
claim_long p h = length-set (On.mark version1 p h) 3 (byte_at h 3 - 1) ∙ mark_length version1 p h

claim_count : (p : ℕ) (h : Bytes) → 64 ≤ length h → byte_at (claim p h) 3 ≡ byte_at h 3 - 1
unfolding claim
claim_count p h l = get_or-set_same (On.mark version1 p h) 3 (byte_at h 3 - 1) 0 (omega (arith, mark_length version1 p h))

-- ---- one after the other

-- i of k pages are claimed
pub record Claiming (n k : ℕ) (h₀ : Bytes) (i : ℕ) (h : Bytes) : Type 0 where
  pub up_to : i ≤ k
  pub size : length h ≡ length h₀
  pub counted : k - i ≤ byte_at h 3
  pub comes : claimed n (k - i) h ≡ claimed n k h₀

module _ (n k : ℕ) (h₀ : Bytes) where
  pub claiming_first : k ≤ byte_at h₀ 3 → Claiming n k h₀ 0 h₀
  claiming_first c = record { up_to = omega arith; size = refl; counted = omega arith; comes = ap (λ (x : ℕ). claimed n x h₀) (sub-zero k) }

  pub claiming_turn : (i : ℕ) (h h' : Bytes) → 64 ≤ length h₀ → Claiming n k h₀ i h → i < k → h' ≡ claim (On.lowest_free version1 n h) h → Claiming n k h₀ (i + 1) h'
  unfolding claimed
  claiming_turn i h h' long s l e =
      let p : ℕ = On.lowest_free version1 n h in
      let left : k - i ≡ suc (k - (i + 1)) = omega arith in
      record {
        up_to = omega arith;
        size = ap length e ∙ claim_long p h ∙ s.size;
        counted = omega (arith, s.counted, ap (λ (x : Bytes). byte_at x 3) e, claim_count p h (omega (arith, s.size, long)));
        comes = ap (claimed n (k - (i + 1))) e ∙ sym (ap (λ (x : ℕ). claimed n x h) left) ∙ s.comes;
      }

  pub claiming_last : (i : ℕ) (h : Bytes) → Claiming n k h₀ i h → k ≤ i → h ≡ claimed n k h₀
  unfolding claimed
  claiming_last i h s l = let none : k - i ≡ 0 = omega arith in sym (ap (λ (x : ℕ). claimed n x h) none) ∙ s.comes

-- ---- what is left after k claims: a page the fewer free and counted with each

pub count_left : (n k : ℕ) (h : Bytes) → 64 ≤ length h → byte_at (claimed n k h) 3 ≡ byte_at h 3 - k
unfolding claimed
count_left n zero h l = sym (sub-zero (byte_at h 3))
count_left n (suc k) h l =
    let p : ℕ = On.lowest_free version1 n h in
    count_left n k (claim p h) (omega (arith, claim_long p h)) ∙ omega (arith, claim_count p h l)

pub free_left : (n k : ℕ) (h : Bytes) → n ≤ 256 → 64 ≤ length h → k ≤ On.zero_bits version1 h n → On.zero_bits version1 (claimed n k h) n + k ≡ On.zero_bits version1 h n
unfolding claimed claim
free_left n zero h few l e = omega arith
free_left n (suc k) h few l e =
    let p : ℕ = On.lowest_free version1 n h in
    let f = lowest_free_lem version1 n h (omega (arith, e)) in
    let same : (q : ℕ) → q < n → On.page_bit version1 (claim p h) q ≡ On.page_bit version1 (On.mark version1 p h) q =
    λ q u. bit_byte version1 (On.mark version1 p h) (claim p h) q (get_or-set_other (On.mark version1 p h) 3 (4 + q / 8) (byte_at h 3 - 1) 0 (λ z. omega (arith, z))) in
    let one = mark_count version1 h p n (omega (arith, f.0, few, l)) f.0 f.1 in
    let zeros = zeros_cong version1 (On.mark version1 p h) (claim p h) n same in
    omega (arith, free_left n k (claim p h) few (omega (arith, claim_long p h)) (omega (arith, one, zeros, e)), one, zeros)

-- the page after j claims is one of the image, if more than j are free
pub page_under : (n j : ℕ) (h : Bytes) → n ≤ 256 → 64 ≤ length h → j < On.zero_bits version1 h n → page_after n j h < n
page_under n j h few l e = (lowest_free_lem version1 n (claimed n j h) (omega (arith, free_left n j h few l (omega (arith, e)), e))).0
