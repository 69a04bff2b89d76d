-- The model's answer for each result of a call: what it tells, or its refusal.
use Rattle.std.specs.Prelude.{ℕ, ◌+◌, ◌*◌, leb, if◌then◌else◌, ⊤, Option, Result}
use Rattle.volume.specs.Bytes.{Bytes}
use Rattle.model.specs.Layout.{page_size}
use Rattle.model.specs.Entry.{entry_count, entries_start, Entry, entry_at}
use Rattle.model.specs.Call.{Verdict, Found as Finding, Listed as Listing, refusal, Answer, refused, granted}
use Rattle.arrivals.specs.Listed as Of
use Rattle.outcomes.specs.Answers.{answered, counted, found_of, listed_of}
use Rattle.outcomes.specs.declared.Counts.{Counts}
use Rattle.outcomes.specs.declared.Found.{Found}
use Rattle.outcomes.specs.declared.Listed.{Listed}
use Rattle.refusals.specs.Told.{told}
use Rattle.refusals.specs.declared.Refusal.{Refusal}
unfoldable pub use Rattle.arrivals.specs.Beside.{find_date, list_name, list_date}

-- a call that changes an image tells only that it was done
abbrev pub change_answer : Result ⊤ Refusal → Answer (Unit {0})
change_answer = answered told (λ x. tt)

abbrev pub verdict_answer : Result Counts Refusal → Answer Verdict
verdict_answer = answered told counted

abbrev pub find_answer : Result Found Refusal → Answer Finding
find_answer = answered told found_of

abbrev pub list_answer : Result (Option Listed) Refusal → Answer Listing
list_answer = answered told listed_of

-- the number of bytes that were copied
abbrev pub read_answer : Result ℕ Refusal → Answer ℕ
read_answer = answered told (λ n. n)

-- ---- what a function of the crate asks the bytes

-- an entry as list tells it
abbrev pub entry_told : Entry → Listing
entry_told e = Of.entry_told page_size e

-- entry i of the directory on page p
unfoldable pub entry_listed : Bytes → (page i : ℕ) → Answer Listing
entry_listed b p i = if leb (entry_count p) i then refused (refusal 12) else granted (entry_told (entry_at b (entries_start p + 32 * i)))
