-- The base's calls that make a file anew with its content, in turn (paper 02 §4), of which the first refusal ends it.
use Rattle.std.specs.Prelude.{◌≡◌, ℕ, ◌≤◌, max, Bool, false, List, [], ◌∷◌, ◌++◌, T, eqb, if◌then◌else◌, ⊤, Result, Ok, Err}
use Rattle.volume.specs.Bytes.{Bytes}
use Rattle.model.specs.Layout.{pages_for, free_count}
use Rattle.model.specs.Sound.{sound}
use Rattle.model.specs.Call.{Call, make_file, write, remove_file, Refusal, Answer, refused, granted}
use Rattle.model.specs.Meaning.{answer, after}
use Rattle.refusals.specs.declared.Refusal.{Refusal as Base}
use Rattle.refusals.specs.Told.{told}
use Rattle.link_list.specs.Links.{run_after}

-- ---- the calls

-- any old file is removed, and it is made anew with its content
unfoldable pub replacing : (path date : Bytes) (old : Bool) (v : Bytes) → List Call
replacing path date old v = (if old then remove_file path ∷ [] else []) ++ (make_file path date ∷ write path 0 v ∷ [])

-- 8 of a make
unfoldable pub is_taken : {A : Type 0} → Answer A → Bool
is_taken (refused f) = eqb f.number 8
is_taken (granted y) = false

abbrev pub taken : (path date b : Bytes) → Bool
taken path date b = is_taken (answer (make_file path date) b)

-- there is an old file if the make says so
abbrev pub anew : (path date v b : Bytes) → List Call
anew path date v b = replacing path date (taken path date b) v

abbrev pub first_of : (path date b : Bytes) → Call
first_of path date b = if taken path date b then remove_file path else make_file path date

-- ---- in turn

unfoldable pub then_answer : {A B : Type 0} → Answer A → Answer B → Answer B
then_answer (refused f) x = refused f
then_answer (granted y) x = x

unfoldable pub run_answer : List Call → Bytes → Answer (Unit {0})
run_answer [] b = granted tt
run_answer (c ∷ cs) b = then_answer (answer c b) (run_answer cs (after c b))

unfoldable pub if_granted : {A : Type 0} → Answer A → (before after : Bytes) → Bytes
if_granted (refused f) b b' = b
if_granted (granted y) b b' = b'

-- the image after all of them, or as it was
unfoldable pub run_whole : List Call → Bytes → Bytes
run_whole cs b = if_granted (run_answer cs b) b (run_after cs b)

-- where one was refused the image after it may be anything
abbrev pub RunsTo : Result ⊤ Base → List Call → (before after : Bytes) → Type 0
RunsTo (Ok _) cs b b' = (granted tt ≡ run_answer cs b) × (b' ≡ run_after cs b)
RunsTo (Err r) cs b b' = refused (told r) ≡ run_answer cs b

-- this call, refused, leaves the image
abbrev pub KeptBy : Call → (before after : Bytes) → Type 0
KeptBy c b b' = (f : Refusal) → answer c b ≡ refused f → b' ≡ b

-- so many bytes have room beside all that is there, or need one page
abbrev pub HasRoom : ℕ → Bytes → Type 0
HasRoom n b = T (sound b) → pages_for n ≤ max 1 (free_count b)
