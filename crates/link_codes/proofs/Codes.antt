-- The base's refusals have none of the numbers 21, 22 and 23, so their code and its room are the base's.
use mathlib.Core.Path.{◌≡◌, sym, ◌∙◌}
use Prim.Native.Nat.{ℕ}
use Rattle.volume.proofs.Tests.{if_no}
use mathlib.Core.Bool.{not}
use lib.Dec.{T}
use Rattle.faults.specs.declared.Fault.TheVariants.{BadEntry, BadChain, OwnedTwice, MarkedFree, LostPage, BadCount}
use Rattle.refusals.specs.Told.{told}
use Rattle.refusals.specs.declared.Refusal.{Refusal}
use Rattle.refusals.specs.declared.Refusal.TheVariants.{BadLength, BadHeader, Unsound, NoPath, BadDate, IsRoot, NoSuchName, NotADirectory, NameTaken, IsADirectory, Locked, PastEnd, DirectoryFull, NoFreePages, NotEmpty, NotAPage}
use Rattle.link_answers.specs.declared.LinkRefusal.{LinkRefusal}
use Rattle.link_answers.specs.declared.LinkRefusal.TheVariants.{Base}
use Rattle.link_answers.specs.Answers.{link_refusal}
use Rattle.codes.specs.Codes.{refusal_code, Fits}
use Rattle.link_codes.specs.Codes.{points_to_row, link_code, LinkFits}

no_row : (r : Refusal) → T (not (points_to_row (told r)))
unfolding points_to_row
no_row BadLength = tt
no_row BadHeader = tt
no_row (Unsound (BadEntry directory entry)) = tt
no_row (Unsound (BadChain directory entry passed)) = tt
no_row (Unsound (OwnedTwice page)) = tt
no_row (Unsound (MarkedFree page)) = tt
no_row (Unsound (LostPage page)) = tt
no_row (Unsound BadCount) = tt
no_row NoPath = tt
no_row BadDate = tt
no_row IsRoot = tt
no_row (NoSuchName byte) = tt
no_row (NotADirectory byte) = tt
no_row NameTaken = tt
no_row IsADirectory = tt
no_row Locked = tt
no_row PastEnd = tt
no_row DirectoryFull = tt
no_row NoFreePages = tt
no_row NotEmpty = tt
no_row NotAPage = tt

-- by the case of the code
pub base_fits : {l : LinkRefusal} {r : Refusal} → l ≡ Base r → LinkFits (link_refusal l) → Fits (told r).place
unfolding LinkFits
base_fits {l} {r} e h = (rw e at h) (no_row r)

pub base_code : {l : LinkRefusal} {r : Refusal} {n : ℕ} → l ≡ Base r → n ≡ refusal_code (told r) → n ≡ link_code (link_refusal l)
unfolding link_code
base_code {l} {r} e is = rw e (is ∙ sym (if_no (points_to_row (told r)) _ _ (no_row r)))
