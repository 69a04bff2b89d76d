-- A fault's number is the one that the model tells of it; every other case is its number.
use Rattle.refusals.specs.Told.{told}
use Rattle.refusals.specs.declared.Refusal.{Refusal}
use mathlib.Core.Path.{sym, ap, ◌∙◌}
use Rattle.refusals.proofs.number.Goals as goal

pub returns-in-Unsound : goal.returns-in-Unsound
returns-in-Unsound c = c.fault_number.ensures ∙ ap (λ (x : Refusal). (told x).number) (sym c.in-Unsound.is)
