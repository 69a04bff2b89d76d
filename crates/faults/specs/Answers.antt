-- What each case of the enums is in the model's `Judge`.
use Rattle.std.specs.Prelude.{ℕ, List, ⊤, Result, Ok, Err}
use Rattle.model.specs.Judge as Model
use Rattle.model.specs.Judge.{Judged, fault, clean}
use Rattle.faults.specs.declared.Fault.{Fault}
use Rattle.faults.specs.declared.Fault.TheVariants.{BadEntry, BadChain, OwnedTwice, MarkedFree, LostPage, BadCount}

abbrev pub fault_of : Fault → Model.Fault
fault_of (BadEntry directory i) = Model.bad_entry directory.0 i
fault_of (BadChain directory i passed) = Model.bad_chain directory.0 i passed
fault_of (OwnedTwice page) = Model.owned_twice page.0
fault_of (MarkedFree page) = Model.marked_free page.0
fault_of (LostPage page) = Model.lost_page page.0
fault_of BadCount = Model.bad_count

-- An answer with the owner marks as it left them. What a faulty walk leaves in them is nobody's concern.
abbrev pub outcome : Result ⊤ Fault → List ℕ → Judged
outcome (Ok _) marks = clean marks
outcome (Err f) marks = fault (fault_of f)
