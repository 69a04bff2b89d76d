-- A name read from its last byte to its first: what is known of the bytes behind k is known of those behind k − 1 once byte k is seen, as the
-- definition of a legal name goes byte by byte.
use mathlib.Core.Path.{◌≡◌, refl, sym, ap, ap₂, ◌∙◌, subst}
use Prim.Native.Nat.{ℕ, zero, suc, ◌+◌, ◌-◌, ◌≤◌, ◌<◌}
use native.Mathlib.Omega.{arith}
use mathlib.Core.Bool.{Bool, true, ◌&&◌}
use mathlib.Core.List.{[], ◌∷◌}
use lib.ListN.{length, get_or, drop}
use lib.Seq.{drop-length}
use lib.Dec.{eqb}
use Rattle.volume.specs.Bytes.{Bytes, byte_at}
use Rattle.std.specs.Prelude.{if◌then◌else◌}
use Rattle.volume.specs.Lists.{all}
use Rattle.volume.proofs.Puts.{byte_part, part_length}
use Rattle.model.specs.Entry.{name_at}
use Rattle.model.specs.Name.{legal_byte, legal_rest, legal_name}

-- the bytes of the name behind byte k: whether they are only zeros, and whether they are the rest of a legal name
pub record Behind (b : Bytes) (at k : ℕ) (zeros legal : Bool) : Type 0 where
  pub low : 1 ≤ k
  pub high : k ≤ 16
  pub blank : zeros ≡ all (eqb 0) (drop k (name_at b at))
  pub good : legal ≡ legal_rest (drop k (name_at b at))

module _ (b : Bytes) (at : ℕ) (inside : at + 32 ≤ length b) where
  long : length (name_at b at) ≡ 16
  long = part_length (at + 1) 16 b (omega arith)

  pub behind_all : Behind b at 16 true true
  unfolding all legal_rest
  behind_all =
      let none : drop 16 (name_at b at) ≡ [] = ap (λ (n : ℕ). drop n (name_at b at)) (sym long) ∙ drop-length (name_at b at) in
      record {
        low = omega arith;
        high = omega arith;
        blank = sym (ap (all (eqb 0)) none);
        good = sym (ap legal_rest none);
      }

  split : (v : Bytes) (j : ℕ) → j < length v → drop j v ≡ get_or v j 0 ∷ drop (suc j) v
  split [] j l = absurd (omega arith)
  split (x ∷ xs) zero l = refl
  split (x ∷ xs) (suc j) l = split xs j (omega arith)

  -- byte k of the name, counted from 1
  step : (j : ℕ) → j < 16 → drop j (name_at b at) ≡ byte_at b (at + suc j) ∷ drop (suc j) (name_at b at)
  step j l =
      split (name_at b at) j (omega (arith, long))
      ∙ ap (λ (c : ℕ). c ∷ drop (suc j) (name_at b at)) (byte_part (at + 1) 16 j b l ∙ ap (byte_at b) (let e : at + 1 + j ≡ at + suc j = omega arith in e))

  pub behind_next : (k : ℕ) {zeros legal next : Bool} → Behind b at k zeros legal → 1 < k
      → next ≡ (if eqb (byte_at b (at + k)) 0 then zeros else (legal_byte (byte_at b (at + k)) && legal))
      → Behind b at (k - 1) (eqb 0 (byte_at b (at + k)) && zeros) next
  unfolding all legal_rest
  behind_next zero s l n = absurd (omega arith)
  behind_next (suc j) {zeros} {legal} {next} s l n =
      let c : ℕ = byte_at b (at + suc j) in
      let here = step j (omega (arith, s.high)) in
      let e : suc j - 1 ≡ j = omega arith in
      subst (λ (i : ℕ). Behind b at i (eqb 0 c && zeros) next) (sym e) (record {
        low = omega arith;
        high = omega (arith, s.high);
        blank = ap (λ (z : Bool). eqb 0 c && z) s.blank ∙ sym (ap (all (eqb 0)) here);
        good = n ∙ ap₂ (λ (z g : Bool). if eqb c 0 then z else (legal_byte c && g)) s.blank s.good ∙ sym (ap legal_rest here);
      })

  pub behind_none : {k : ℕ} {zeros legal : Bool} → Behind b at k zeros legal → k ≤ 1 → {first : Bool} → first ≡ legal_byte (byte_at b (at + 1))
      → (first && legal) ≡ legal_name (name_at b at)
  unfolding legal_name
  behind_none {k} {zeros} {legal} s l f =
      let one : k ≡ 1 = omega (arith, s.low) in
      let rest : legal ≡ legal_rest (drop 1 (name_at b at)) = s.good ∙ ap (λ (n : ℕ). legal_rest (drop n (name_at b at))) one in
      ap₂ (λ (x g : Bool). x && g) f rest ∙ sym (ap legal_name (step 0 (omega arith)))
