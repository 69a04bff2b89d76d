-- Number and place tell the case: nothing is lost between the enum and the paper's table.
use mathlib.Core.Path.{◌≡◌, refl, sym, ap, ◌∙◌}
use Prim.Native.Nat.{ℕ}
use lib.Dec.{eqb}
use Rattle.std.specs.Prelude.{if◌then◌else◌}
use Rattle.model.specs.Call.{Refusal as Model}
use Rattle.faults.specs.declared.Fault.TheVariants.{BadEntry, BadChain, OwnedTwice, MarkedFree, LostPage, BadCount}
use Rattle.refusals.proofs.Injective.{fault_case}
use Rattle.refusals2.specs.Told.{told}
use Rattle.refusals2.specs.declared.Refusal.{Refusal}
use Rattle.refusals2.specs.declared.Refusal.TheVariants.{BadLength, BadVersion, BadShape, Unsound, NoPath, BadDate, IsRoot, NoSuchName, NotADirectory, NameTaken, IsADirectory, Locked, PastEnd, NoFreePages, NotEmpty}

-- the case of a number and a place
abbrev numbered : ℕ → ℕ × ℕ × ℕ → Refusal
numbered n place =
    if eqb n 1 then BadLength else if eqb n 2 then BadVersion else if eqb n 26 then BadShape else if eqb n 4 then NoPath
    else if eqb n 5 then NoSuchName place.0 else if eqb n 6 then NotADirectory place.0 else if eqb n 7 then IsADirectory else if eqb n 8 then NameTaken
    else if eqb n 10 then NoFreePages else if eqb n 11 then BadDate else if eqb n 12 then PastEnd else if eqb n 13 then NotEmpty
    else if eqb n 14 then IsRoot else if eqb n 25 then Locked else Unsound (fault_case n place)

abbrev pub case : Model → Refusal
case m = numbered m.number m.place

pub case_told : (r : Refusal) → case (told r) ≡ r
case_told BadLength = refl
case_told BadVersion = refl
case_told BadShape = refl
case_told (Unsound (BadEntry d i)) = refl
case_told (Unsound (BadChain d i passed)) = refl
case_told (Unsound (OwnedTwice p)) = refl
case_told (Unsound (MarkedFree p)) = refl
case_told (Unsound (LostPage p)) = refl
case_told (Unsound BadCount) = refl
case_told NoPath = refl
case_told BadDate = refl
case_told IsRoot = refl
case_told (NoSuchName byte) = refl
case_told (NotADirectory byte) = refl
case_told NameTaken = refl
case_told IsADirectory = refl
case_told Locked = refl
case_told PastEnd = refl
case_told NoFreePages = refl
case_told NotEmpty = refl

pub told_injective : (r s : Refusal) → told r ≡ told s → r ≡ s
told_injective r s e = sym (case_told r) ∙ ap case e ∙ case_told s
