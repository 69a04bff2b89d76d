-- A row is copied number by number: those before p are the other row's. And what the second judge says of an image.
use mathlib.Core.Path.{◌≡◌, refl, sym, ap, ◌∙◌, subst}
use Prim.Native.Nat.{ℕ, ◌+◌, ◌≤◌, ◌<◌}
use native.Mathlib.Omega.{arith}
use native.Mathlib.Decide.{ℕ_discrete}
use mathlib.Core.List.{List}
use lib.ListN.{length, get_or, set, replicate, length-set}
use mathlib.Core.Bool.{Bool, true, false}
use mir.Val.{bool_byte}
use Rattle.std.specs.Prelude.{Option, Some, None, if◌then◌else◌}
use Rattle.std.specs.Option.{is_some}
use Rattle.volume.specs.Bytes.{Bytes}
use Rattle.model.specs.Sound.{sound}
use Rattle.audit.specs.Owner.{owner_numbers}
use Rattle.audit.proofs.Marks.{unsound_owners}
use Rattle.codes.specs.Outs.{sound_number}
use lib.Seq.{get_or-set_same, get_or-set_other, ext_get_or}

pub record Copied (from to : List ℕ) (p : ℕ) : Type 0 where
  pub long : length to ≡ length from
  pub most : p ≤ length from
  pub each : (i : ℕ) → i < p → get_or to i 0 ≡ get_or from i 0

module _ {from to : List ℕ} {p : ℕ} (c : Copied from to p) where
  pub copied_next : p < length from → Copied from (set to p (get_or from p 0)) (p + 1)
  copied_next l = record {
    long = length-set to p (get_or from p 0) ∙ c.long;
    most = omega arith;
    each = λ i h. elim (ℕ_discrete i p) [
      | yes e ↦ subst (λ (j : ℕ). get_or (set to p (get_or from p 0)) j 0 ≡ get_or from j 0) (sym e) (get_or-set_same to p (get_or from p 0) 0 (omega (arith, c.long)))
      | no ne ↦ get_or-set_other to p i (get_or from p 0) 0 ne ∙ c.each i (omega (arith, ne))
    ];
  }

  pub copied_all : length from ≤ p → to ≡ from
  copied_all l = ext_get_or 0 to from c.long (λ i h. c.each i (omega (arith, c.long, c.most)))

-- ---- r is what the second judge says

module _ (b : Bytes) {r : Option (List ℕ)} (says : r ≡ (if sound b then Some (owner_numbers b) else None)) where
  pub says_sound : {s : Bool} {n : ℕ} → s ≡ is_some r → n ≡ bool_byte s → n ≡ sound_number (sound b)
  unfolding sound_number
  says_sound e f = f ∙ ap bool_byte (e ∙ ap is_some says) ∙ go (sound b)
    where
      go : (c : Bool) → bool_byte (is_some (if c then Some (owner_numbers b) else None)) ≡ (if c then 1 else 0)
      go true = refl
      go false = refl

  pub owners_told : {row : List ℕ} → r ≡ Some row → row ≡ owner_numbers b
  owners_told {row} e = go (sound b) says
    where
      go : (c : Bool) → r ≡ (if c then Some (owner_numbers b) else None) → row ≡ owner_numbers b
      go true f = cc
      go false f = absurd (cc)

  pub nobody_told : r ≡ None → replicate 256 0 ≡ owner_numbers b
  nobody_told e = go (sound b) refl says
    where
      go : (c : Bool) → sound b ≡ c → r ≡ (if c then Some (owner_numbers b) else None) → replicate 256 0 ≡ owner_numbers b
      go true y f = absurd (cc)
      go false n f = unsound_owners b n
