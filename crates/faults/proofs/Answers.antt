-- The exit of a `?`: the fault that a call told is told on.
use mathlib.Core.Path.{◌≡◌}
use Prim.Native.Nat.{ℕ}
use mathlib.Core.List.{List}
use Rattle.std.specs.Prelude.{⊤, Result, Ok, Err, IsErrAnd}
use Rattle.std.proofs.lemmas.Result.{err_from_is_err_and}
use Rattle.model.specs.Judge.{Judged, fault}
use Rattle.faults.specs.declared.Fault.{Fault}
use Rattle.faults.specs.Answers.{fault_of, outcome}

pub told_on : (r : Result ⊤ Fault) (x : Fault) (m : List ℕ) {j : Judged} → IsErrAnd r (λ y. y ≡ x) → fault (fault_of x) ≡ j → outcome r m ≡ j
told_on r x m told e = let p = err_from_is_err_and r told in rw (p.1, p.2) e
