-- The exit of a `?` on a judging: the bad row that it told is told on.
use mathlib.Core.Path.{◌≡◌, refl, ◌∙◌, ap}
use Rattle.std.specs.Prelude.{Result, IsErrAnd}
use Rattle.model.specs.Call.{Refusal, Answer, refused}
use Rattle.outcomes.specs.Answers.{answered}
use Rattle.outcomes.proofs.Exits.{told_on}
use Rattle.link_judge.specs.declared.RowFault.{RowFault}
use Rattle.link_judge.specs.declared.RowFault.TheVariants.{Broken, NotAbove}
use Rattle.link_judge.specs.Judged.{row_refusal}
use Rattle.link_answers.specs.declared.LinkRefusal.{LinkRefusal}
use Rattle.link_answers.specs.Answers.{link_refusal, row_refused}

-- the conversion of a bad row
pub row_same : (f : RowFault) → link_refusal (row_refused f) ≡ row_refusal f
row_same (Broken i) = refl
row_same (NotAbove i) = refl

-- the exit
pub row_told_on : {A B : Type 0} (value : A → B) (r : Result A LinkRefusal) (f : RowFault) {a : Answer B} → IsErrAnd r (λ y. y ≡ row_refused f) → refused (row_refusal f) ≡ a → answered link_refusal value r ≡ a
row_told_on value r f is e = told_on link_refusal value r (row_refused f) is (ap (λ (x : Refusal). refused x) (row_same f) ∙ e)
