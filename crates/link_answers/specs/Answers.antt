-- The answers of `link_list` for each case of a call's result.
use Rattle.std.specs.Prelude.{ℕ, Option, Result, ⊤}
use Rattle.std.proofs.Math.Option as Model
use Rattle.model.specs.Call.{Refusal, refusal, refusal_at, Answer}
use Rattle.outcomes.specs.Answers.{answered}
use Rattle.refusals.specs.Told.{told}
use Rattle.link_judge.specs.declared.RowFault.{RowFault}
use Rattle.link_judge.specs.declared.RowFault.TheVariants as row
use Rattle.link_rows.specs.Told.{figure_told}
use Rattle.link_answers.specs.declared.LinkRefusal.{LinkRefusal}
use Rattle.link_answers.specs.declared.LinkRefusal.TheVariants.{Base, BrokenRow, NotAbove, ListTooShort, NoFile}

-- the paper's number and place
abbrev pub link_refusal : LinkRefusal → Refusal
link_refusal (Base r) = told r
link_refusal (BrokenRow i) = refusal_at 21 i
link_refusal (NotAbove i) = refusal_at 22 i
link_refusal ListTooShort = refusal 24
link_refusal (NoFile i) = refusal_at 23 i

-- a bad row's
abbrev pub row_refused : RowFault → LinkRefusal
row_refused (row.Broken i) = BrokenRow i
row_refused (row.NotAbove i) = NotAbove i

abbrev pub read_told : Result ℕ LinkRefusal → Answer ℕ
read_told = answered link_refusal (λ n. n)

abbrev pub find_told : Result (Option ℕ) LinkRefusal → Answer (Model.Option ℕ)
find_told = answered link_refusal figure_told

abbrev pub done_told : Result ⊤ LinkRefusal → Answer (Unit {0})
done_told = answered link_refusal (λ _. tt)
