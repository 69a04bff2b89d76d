-- The model's answer for the call's result.
use Rattle.std.specs.Prelude.{ℕ, Result}
use Rattle.model.specs.Call.{Answer}
use Rattle.fields.specs.declared.Page.{Page}
use Rattle.outcomes.specs.Answers.{answered}
use Rattle.refusals.specs.Told.{told}
use Rattle.refusals.specs.declared.Refusal.{Refusal}

abbrev pub store_answer : Result Page Refusal → Answer ℕ
store_answer = answered told (λ page. page.0)
