-- The refusals of version 2 that point nowhere.
use mathlib.Core.Path.{◌≡◌, refl}
use Prim.Native.Nat.{ℕ}
use Rattle.faults.specs.declared.Fault.{Fault}
use Rattle.refusals2.specs.Told.{told}
use Rattle.refusals2.specs.declared.Refusal.{Refusal}
use Rattle.refusals2.specs.declared.Refusal.TheVariants.{BadLength, BadVersion, BadShape, Unsound, NoPath, BadDate, IsRoot, NoSuchName, NotADirectory, NameTaken, IsADirectory, Locked, PastEnd, NoFreePages, NotEmpty}
use Rattle.codes.specs.Codes.{packed}

-- the cases that a `match` on the three with a place leaves
pub no_place : (r : Refusal) → ((f : Fault) → r ≡ Unsound f → ⊥) → ((n : ℕ) → r ≡ NoSuchName n → ⊥) → ((n : ℕ) → r ≡ NotADirectory n → ⊥) → 0 ≡ packed (told r).place
unfolding packed
no_place BadLength u n d = refl
no_place BadVersion u n d = refl
no_place BadShape u n d = refl
no_place (Unsound fault) u n d = absurd (u fault refl)
no_place NoPath u n d = refl
no_place BadDate u n d = refl
no_place IsRoot u n d = refl
no_place (NoSuchName byte) u n d = absurd (n byte refl)
no_place (NotADirectory byte) u n d = absurd (d byte refl)
no_place NameTaken u n d = refl
no_place IsADirectory u n d = refl
no_place Locked u n d = refl
no_place PastEnd u n d = refl
no_place NoFreePages u n d = refl
no_place NotEmpty u n d = refl
