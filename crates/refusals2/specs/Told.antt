-- The paper's number and place of each case of version 2's enum `Refusal`.
use Rattle.model.specs.Call.{Refusal as Model, refusal, refusal_at}
use Rattle.model.specs.Meaning.{fault_told}
use Rattle.faults.specs.Answers.{fault_of}
use Rattle.paths.specs.declared.Stop.{Stop}
use Rattle.paths.specs.declared.Stop.TheVariants.{Missing, Blocked}
use Rattle.refusals2.specs.declared.Refusal.{Refusal}
use Rattle.refusals2.specs.declared.Refusal.TheVariants.{BadLength, BadVersion, BadShape, Unsound, NoPath, BadDate, IsRoot, NoSuchName, NotADirectory, NameTaken, IsADirectory, Locked, PastEnd, NoFreePages, NotEmpty}

abbrev pub told : Refusal → Model
told BadLength = refusal 1
told BadVersion = refusal 2
told BadShape = refusal 26
told (Unsound fault) = fault_told (fault_of fault)
told NoPath = refusal 4
told BadDate = refusal 11
told IsRoot = refusal 14
told (NoSuchName byte) = refusal_at 5 byte
told (NotADirectory byte) = refusal_at 6 byte
told NameTaken = refusal 8
told IsADirectory = refusal 7
told Locked = refusal 25
told PastEnd = refusal 12
told NoFreePages = refusal 10
told NotEmpty = refusal 13

-- where a walk stops
abbrev pub stopped_by : Stop → Refusal
stopped_by (Missing byte) = NoSuchName byte
stopped_by (Blocked byte) = NotADirectory byte
