-- What the calls outside the lists are refused with fits its code.
use mathlib.Core.Path.{◌≡◌, refl, sym}
use native.Mathlib.Omega.{arith}
use Rattle.volume.specs.Bytes.{Bytes}
use Rattle.model.specs.Call.{verdict, Refusal, Answer, refused, granted}
use Rattle.repair.specs.Repair.{repair_answer}
use Rattle.repair.proofs.Repairs.{repair_demand}
use Rattle.moves.specs.Tidy.{tidy_answer}
use Rattle.moves.specs.Propose.{propose_answer}
use Rattle.moves.specs.Demand as Moves
use Rattle.moves.proofs.Promise.{tidy_demand, propose_demand}
use Rattle.codes.specs.Codes.{Fits, place_of}
use Rattle.codes.proofs.Fits.{refused_fits, roomy1}

nowhere : Fits (0, 0, 0)
nowhere = record { first = omega arith; second = omega arith; third = omega arith }

-- what repair is refused with is the verdict's refusal
pub repair_fits : (b : Bytes) → Fits (place_of (repair_answer b))
repair_fits b = go (repair_answer b) refl
  where
    go : (a : Answer (Unit {0})) → repair_answer b ≡ a → Fits (place_of a)
    go (refused m) e = refused_fits roomy1 verdict b (sym (repair_demand.refuses b m e).told)
    go (granted x) e = nowhere

-- §13's calls are refused with the verdict's refusal, or with a number that points nowhere
pub tidy_fits : (b places target : Bytes) → Fits (place_of (tidy_answer b places target))
tidy_fits b places target = go (tidy_answer b places target) refl
  where
    stops : {m : Refusal} → Moves.TidyStops b places target m → Fits m.place
    stops (Moves.by_verdict m e) = refused_fits roomy1 verdict b (sym e)
    stops (Moves.by_length h n) = nowhere
    stops (Moves.by_proposal h e n) = nowhere

    go : (a : Answer (Unit {0})) → tidy_answer b places target ≡ a → Fits (place_of a)
    go (refused m) e = stops (tidy_demand.refuses b places target m e).0
    go (granted x) e = nowhere

pub propose_fits : (b row : Bytes) → Fits (place_of (propose_answer b row))
propose_fits b row = go (propose_answer b row) refl
  where
    stops : {m : Refusal} → Moves.ProposeStops b row m → Fits m.place
    stops (Moves.by_verdict m e) = refused_fits roomy1 verdict b (sym e)
    stops (Moves.by_length h n) = nowhere

    go : (a : Answer (Unit {0})) → propose_answer b row ≡ a → Fits (place_of a)
    go (refused m) e = stops (propose_demand.refuses b row m e).0
    go (granted x) e = nowhere
