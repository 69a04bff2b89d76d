-- The refusals that point nowhere, and how much room a place takes.
use mathlib.Core.Path.{◌≡◌, refl}
use mathlib.Core.Bool.{Bool, true, false}
use mir.Val.{bool_byte}
use Rattle.std.specs.Prelude.{if◌then◌else◌}
use Prim.Native.Nat.{ℕ, ◌<◌}
use native.Mathlib.Omega.{arith}
use Rattle.faults.specs.declared.Fault.{Fault}
use Rattle.refusals.specs.Told.{told}
use Rattle.refusals.specs.declared.Refusal.{Refusal}
use Rattle.refusals.specs.declared.Refusal.TheVariants.{BadLength, BadHeader, Unsound, NoPath, BadDate, IsRoot, NoSuchName, NotADirectory, NameTaken, IsADirectory, Locked, PastEnd, DirectoryFull, NoFreePages, NotEmpty, NotAPage}
use Rattle.codes.specs.Codes.{packed, Fits}

-- the cases that a `match` on the three with a place leaves
pub no_place : (r : Refusal) → ((f : Fault) → r ≡ Unsound f → ⊥) → ((n : ℕ) → r ≡ NoSuchName n → ⊥) → ((n : ℕ) → r ≡ NotADirectory n → ⊥) → 0 ≡ packed (told r).place
unfolding packed
no_place BadLength u n d = refl
no_place BadHeader u n d = refl
no_place (Unsound fault) u n d = absurd (u fault refl)
no_place NoPath u n d = refl
no_place BadDate u n d = refl
no_place IsRoot u n d = refl
no_place (NoSuchName byte) u n d = absurd (n byte refl)
no_place (NotADirectory byte) u n d = absurd (d byte refl)
no_place NameTaken u n d = refl
no_place IsADirectory u n d = refl
no_place Locked u n d = refl
no_place PastEnd u n d = refl
no_place DirectoryFull u n d = refl
no_place NoFreePages u n d = refl
no_place NotEmpty u n d = refl
no_place NotAPage u n d = refl

-- a place that fits has 48 bits
pub place_low : {place : ℕ × ℕ × ℕ} → Fits place → packed place < 281474976710656
unfolding packed
place_low f = omega (arith, f.first, f.second, f.third)

-- a mark as a number
pub mark_number : (locked : Bool) → bool_byte locked ≡ (if locked then 1 else 0)
mark_number true = refl
mark_number false = refl
