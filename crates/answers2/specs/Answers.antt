-- The model's answer for each result of a call of version 2: what it tells, or its refusal.
use Rattle.std.specs.Prelude.{ℕ, ⊤, Option, Result}
use Rattle.model.specs.Call.{Verdict, Found as Finding, Listed as Listing, Answer}
use Rattle.outcomes.specs.Answers.{answered, counted, found_of, listed_of}
use Rattle.outcomes.specs.declared.Counts.{Counts}
use Rattle.outcomes.specs.declared.Found.{Found}
use Rattle.outcomes.specs.declared.Listed.{Listed}
use Rattle.refusals2.specs.Told.{told}
use Rattle.refusals2.specs.declared.Refusal.{Refusal}

-- a call that changes an image tells only that it was done
abbrev pub change_answer : Result ⊤ Refusal → Answer (Unit {0})
change_answer = answered told (λ x. tt)

abbrev pub verdict_answer : Result Counts Refusal → Answer Verdict
verdict_answer = answered told counted

abbrev pub find_answer : Result Found Refusal → Answer Finding
find_answer = answered told found_of

abbrev pub list_answer : Result (Option Listed) Refusal → Answer Listing
list_answer = answered told listed_of

-- the number of bytes that were copied
abbrev pub read_answer : Result ℕ Refusal → Answer ℕ
read_answer = answered told (λ n. n)
