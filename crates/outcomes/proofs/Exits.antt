-- The exit of a `?`: the refusal that a call told is told on.
use mathlib.Core.Path.{◌≡◌}
use Rattle.std.specs.Prelude.{Result, IsErrAnd}
use Rattle.std.proofs.lemmas.Result.{err_from_is_err_and}
use Rattle.model.specs.Call.{Refusal, Answer, refused}
use Rattle.outcomes.specs.Answers.{answered}

pub told_on : {A B R : Type 0} (told : R → Refusal) (value : A → B) (r : Result A R) (x : R) {a : Answer B} → IsErrAnd r (λ y. y ≡ x) → refused (told x) ≡ a → answered told value r ≡ a
told_on told value r x is e = let p = err_from_is_err_and r is in rw (p.1, p.2) e
