-- The paper's number of each case of the enum `TidyRefusal` (paper 02 §13), and the answer that a result stands for.
use Rattle.std.specs.Prelude.{⊤, Result}
use Rattle.model.specs.Call.{Refusal as Model, refusal, Answer}
use Rattle.outcomes.specs.Answers.{answered}
use Rattle.refusals.specs.Told.{told}
use Rattle.tidy.specs.declared.TidyRefusal.{TidyRefusal}
use Rattle.tidy.specs.declared.TidyRefusal.TheVariants.{Base, OtherLength, NotAccepted}

abbrev pub told_tidy : TidyRefusal → Model
told_tidy (Base r) = told r
told_tidy OtherLength = refusal 28
told_tidy NotAccepted = refusal 27

abbrev pub answer_of : Result ⊤ TidyRefusal → Answer (Unit {0})
answer_of = answered told_tidy (λ x. tt)
