-- What the model answers for a call's result: what is told, or the refusal.
use Rattle.std.specs.Prelude.{Option, Some, None, Result, Ok, Err}
use Rattle.model.specs.Call as Model
use Rattle.model.specs.Call.{is_file, is_directory, Verdict, empty, holds, Refusal, Answer, refused, granted}
use Rattle.outcomes.specs.declared.Counts.{Counts}
use Rattle.outcomes.specs.declared.Kind.{Kind}
use Rattle.outcomes.specs.declared.Kind.TheVariants.{File, Directory}
use Rattle.outcomes.specs.declared.Found.{Found}
use Rattle.outcomes.specs.declared.Listed.{Listed}

-- by the value that is told, and by the number and the place of a refusal
abbrev pub answered : {A B R : Type 0} → (R → Refusal) → (A → B) → Result A R → Answer B
answered told value (Ok x) = granted (value x)
answered told value (Err r) = refused (told r)

abbrev pub counted : Counts → Verdict
counted c = record { pages = c.pages; free = c.free }

abbrev pub kind_of : Kind → Model.Kind
kind_of (File locked) = is_file locked
kind_of Directory = is_directory

abbrev pub found_of : Found → Model.Found
found_of f = record { kind = kind_of f.kind; size = f.size; date = f.date }

-- none is an entry that is empty
abbrev pub listed_of : Option Listed → Model.Listed
listed_of None = empty
listed_of (Some l) = holds (kind_of l.kind) l.name l.size l.date
