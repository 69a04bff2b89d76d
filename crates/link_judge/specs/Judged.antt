-- How far a list is judged that is to be written (02 §4), a row at a time, and the list as numbers.
use Rattle.std.specs.Prelude.{ℕ, zero, suc, ◌+◌, ◌*◌, ◌/◌, not, List, [], ◌∷◌, length, get_or, if◌then◌else◌, Option, Some, None, is_some, Result, Ok, Err, ⊤}
use Rattle.std.proofs.Math.Option as Model
use Rattle.std.proofs.Math.Option.{none, some}
use Rattle.model.specs.Call.{Refusal, refusal_at}
use Rattle.link_list.specs.declared.Row.{Row}
use Rattle.link_list.specs.Coding.{in_range}
use Rattle.link_list.specs.Judging.{follows}
use Rattle.link_judge.specs.declared.Judged.{Judged}
use Rattle.link_judge.specs.declared.RowFault.{RowFault}
use Rattle.link_judge.specs.declared.RowFault.TheVariants.{Broken, NotAbove}

abbrev pub no_row : Row
no_row = record { count = 0; value = 0; figure = 0 }

-- the row before the next one, as the definition of a list has it
abbrev pub before_of : Option Row → Model.Option Row
before_of None = none
before_of (Some last) = some last

abbrev pub unjudged : Judged
unjudged = record { fault = None; last = None }

unfoldable pub judged_next : Judged → (i : ℕ) → Row → Judged
judged_next j i r =
    if is_some j.fault then j else
    (if not (in_range r) then record { fault = Some (Broken i); last = j.last } else
    (if not (follows (before_of j.last) r) then record { fault = Some (NotAbove i); last = j.last } else
    record { fault = None; last = Some r }))

-- the rows of a list, of which the first has number i
unfoldable pub judged_from : (i : ℕ) → Judged → List Row → Judged
judged_from i j [] = j
judged_from i j (r ∷ rs) = judged_from (i + 1) (judged_next j i r) rs

-- the paper's number and place
abbrev pub row_refusal : RowFault → Refusal
row_refusal (Broken i) = refusal_at 21 i
row_refusal (NotAbove i) = refusal_at 22 i

-- its first fault
abbrev pub fault_told : Option RowFault → Model.Option Refusal
fault_told None = none
fault_told (Some f) = some (row_refusal f)

abbrev pub judged_told : Judged → Model.Option Refusal
judged_told j = fault_told j.fault

abbrev pub list_told : Result ⊤ RowFault → Model.Option Refusal
list_told (Ok _) = none
list_told (Err f) = some (row_refusal f)

-- ---- a slice of numbers, three a row; a remainder of one or two is not looked at

abbrev pub row_numbered : List ℕ → (i : ℕ) → Row
row_numbered ns i = record { count = get_or ns (3 * i) 0; value = get_or ns (3 * i + 1) 0; figure = get_or ns (3 * i + 2) 0 }

unfoldable pub rows_from : List ℕ → (left i : ℕ) → List Row
rows_from ns zero i = []
rows_from ns (suc left) i = row_numbered ns i ∷ rows_from ns left (i + 1)

unfoldable pub rows_of : List ℕ → List Row
rows_of ns = rows_from ns (length ns / 3) 0
