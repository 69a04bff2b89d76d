-- The bits of the first n pages set anew: each step sets or clears one bit and no other, so each page's bit is what the test says of it, and bytes
-- that hold none of these bits stay. Where the bits are right already nothing changes.
use mathlib.Core.Path.{◌≡◌, refl, ap, ◌∙◌}
use mathlib.Core.Logic.{◌≢◌}
use Prim.Native.Nat.{ℕ, zero, suc, ◌<◌}
use native.Mathlib.Omega.{arith}
use native.Mathlib.Decide.{ℕ_discrete}
use mathlib.Core.Bool.{Bool, true, false, not}
use lib.ListN.{length}
use lib.Dec.{T}
use Rattle.volume.specs.Bytes.{Bytes, byte_at}
use Rattle.std.specs.Prelude.{if◌then◌else◌}
use Rattle.volume.specs.Geometry.{Geometry, bitmap_byte, page_bit, mark, unmark}
use Rattle.volume.proofs.Marks.{mark_length, unmark_length, mark_out, unmark_out, mark_here, unmark_here, mark_other, unmark_other, mark_again, unmark_again}
use Rattle.repair.specs.Remark.{remarked}

module _ (g : Geometry) where
  -- one page's bit
  abbrev set_bit : Bool → ℕ → Bytes → Bytes
  set_bit c p b = if c then mark g p b else unmark g p b

  set_length : (c : Bool) (p : ℕ) (b : Bytes) → length (set_bit c p b) ≡ length b
  set_length true p b = mark_length g p b
  set_length false p b = unmark_length g p b

  set_out : (c : Bool) (p : ℕ) (b : Bytes) (i : ℕ) → i ≢ bitmap_byte g p → byte_at (set_bit c p b) i ≡ byte_at b i
  set_out true p b = mark_out g p b
  set_out false p b = unmark_out g p b

  pub set_other : (c : Bool) (b : Bytes) (p q : ℕ) → bitmap_byte g p < length b → q ≢ p → page_bit g (set_bit c p b) q ≡ page_bit g b q
  set_other true = mark_other g
  set_other false = unmark_other g

  -- a page's bit says what the test says
  pub record Says (c : Bool) (bit : ℕ) : Type 0 where
    pub yes : T c → bit ≡ 1
    pub no : T (not c) → bit ≡ 0

  set_here : (c : Bool) (b : Bytes) (p : ℕ) → bitmap_byte g p < length b → Says c (page_bit g (set_bit c p b) p)
  set_here true b p h = record { yes = λ t. mark_here g b p h; no = λ t. absurd t }
  set_here false b p h = record { yes = λ t. absurd t; no = λ t. unmark_here g b p h }

  pub set_again : (c : Bool) (p : ℕ) (b : Bytes) → Says c (page_bit g b p) → set_bit c p b ≡ b
  set_again true p b s = mark_again g p b (s.yes tt)
  set_again false p b s = unmark_again g p b (s.no tt)

  module _ (f : ℕ → Bool) where
    pub remarked_length : (n : ℕ) (b : Bytes) → length (remarked g f n b) ≡ length b
    unfolding remarked
    remarked_length zero b = refl
    remarked_length (suc n) b = set_length (f n) n (remarked g f n b) ∙ remarked_length n b

    pub remarked_out : (n : ℕ) (b : Bytes) (i : ℕ) → ((q : ℕ) → q < n → i ≢ bitmap_byte g q) → byte_at (remarked g f n b) i ≡ byte_at b i
    unfolding remarked
    remarked_out zero b i h = refl
    remarked_out (suc n) b i h = set_out (f n) n (remarked g f n b) i (h n (omega arith)) ∙ remarked_out n b i (λ q l. h q (omega arith))

    pub remarked_bits : (n : ℕ) (b : Bytes) → ((q : ℕ) → q < n → bitmap_byte g q < length b) → (q : ℕ) → q < n → Says (f q) (page_bit g (remarked g f n b) q)
    unfolding remarked
    remarked_bits zero b fits q l = absurd (omega arith)
    remarked_bits (suc n) b fits q l =
        let b₁ : Bytes = remarked g f n b in
        let fit : bitmap_byte g n < length b₁ = omega (arith, remarked_length n b, fits n (omega arith)) in
        elim (ℕ_discrete q n) [
          | yes e ↦ rw e (set_here (f n) b₁ n fit)
          | no ne ↦
              let o = set_other (f n) b₁ n q fit ne in
              let r = remarked_bits n b (λ p k. fits p (omega arith)) q (omega arith) in
              record { yes = λ t. o ∙ r.yes t; no = λ t. o ∙ r.no t }
        ]

    -- where the bits are right already
    pub remarked_again : (n : ℕ) (b : Bytes) → ((q : ℕ) → q < n → Says (f q) (page_bit g b q)) → remarked g f n b ≡ b
    unfolding remarked
    remarked_again zero b h = refl
    remarked_again (suc n) b h = ap (set_bit (f n) n) (remarked_again n b (λ q l. h q (omega arith))) ∙ set_again (f n) n b (h n (omega arith))

  -- the test's values below n decide
  pub remarked_cong : (f e : ℕ → Bool) (n : ℕ) (b : Bytes) → ((q : ℕ) → q < n → f q ≡ e q) → remarked g f n b ≡ remarked g e n b
  unfolding remarked
  remarked_cong f e zero b h = refl
  remarked_cong f e (suc n) b h =
      ap (λ (c : Bool). set_bit c n (remarked g f n b)) (h n (omega arith)) ∙ ap (set_bit (e n) n) (remarked_cong f e n b (λ q l. h q (omega arith)))
