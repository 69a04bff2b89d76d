-- What is promised of the link list (paper 02 §4), in the manner of the model's Demands.antt.
use Rattle.std.specs.Prelude.{◌≡◌, ◌↔◌, ℕ, ◌+◌, ◌<◌, ◌≤◌, not, List, [], ◌∷◌, ◌++◌, length, drop, T}
use Rattle.std.proofs.Math.Option.{none}
use Rattle.volume.specs.Bytes.{Bytes, byte_at}
use Rattle.volume.specs.Lists.{member}
use Rattle.model.specs.Sound.{sound}
use Rattle.model.specs.Tree.{Tree}
use Rattle.model.specs.Image.{tree_of}
use Rattle.model.specs.Call.{Call, verdict, Refusal, Answer, refused, granted}
use Rattle.model.specs.Refusal.{refusals, Passes}
use Rattle.model.specs.Meaning.{answer, shown, lent_shown, tree_answer, tree_buffer, tree_after}
use Rattle.model.specs.Demands.{Result, Results, Promised, Runs, replay, Demanded, Starts}
use Rattle.link_list.specs.declared.Row.{Row}
use Rattle.link_list.specs.Coding.{file_of}
use Rattle.link_list.specs.Judging.{rows, read_list, bad_row}
use Rattle.link_list.specs.Links.{LinkCall, read_links, write_links, find_link, check_links, LinkTold, list_before, writing, tree_link_answer, tree_link_list, link_turns, link_answer, link_list, link_after}

-- ---- Demand 1: any input, an answer; a refusal has a number that this call can give, and changes neither list nor image.

-- in the order told
unfoldable pub own_link_numbers : LinkCall → List ℕ
own_link_numbers (read_links d list) = 4 ∷ 5 ∷ 6 ∷ 7 ∷ 21 ∷ 22 ∷ 24 ∷ []
own_link_numbers (write_links d date list) = 4 ∷ 11 ∷ 5 ∷ 6 ∷ 7 ∷ 25 ∷ 21 ∷ 22 ∷ 9 ∷ 10 ∷ []
own_link_numbers (find_link d count value) = 4 ∷ 5 ∷ 6 ∷ 7 ∷ 21 ∷ 22 ∷ []
own_link_numbers (check_links d) = 4 ∷ 5 ∷ 6 ∷ 7 ∷ 21 ∷ 22 ∷ 23 ∷ []

-- the image's stand above
abbrev pub link_numbers : LinkCall → List ℕ
link_numbers c = 1 ∷ 2 ∷ 16 ∷ 17 ∷ 18 ∷ 20 ∷ 19 ∷ 3 ∷ own_link_numbers c

pub record LinkUntouched (c : LinkCall) (b : Bytes) (f : Refusal) : Type 0 where
  pub numbered : T (member f.number (link_numbers c))
  pub image : link_after c b ≡ b
  pub list : link_list c b ≡ list_before c

-- ---- Demand 2: what the verdict refuses is refused so; on a sound image each call answers, and changes the tree, as the plain tree says.

pub record LinkAsTree (c : LinkCall) (b : Bytes) : Type 0 where
  pub answered : link_answer c b ≡ tree_link_answer c (tree_of b)
  pub list : link_list c b ≡ tree_link_list c (tree_of b)
  pub is_sound : T (sound (link_after c b))
  pub means : tree_of (link_after c b) ≡ replay (link_turns c (tree_of b)) (tree_of b)

-- ---- Demand 3: lists of the base's calls and of link calls on one image

pub data Step : Type 0 where
  base : Call → Step
  link : LinkCall → Step

pub record LinkResult (c : LinkCall) : Type 0 where
  pub answered : Answer (LinkTold c)
  pub list : List Row

abbrev pub StepResult : Step → Type 0
StepResult (base c) = Result c
StepResult (link c) = LinkResult c

abbrev pub StepResults : List Step → Type 0
StepResults [] = Unit {0}
StepResults (s ∷ ss) = StepResult s × StepResults ss

-- one link call as its public contract promises it: image b before, b' after
pub record LinkPromised (c : LinkCall) (b : Bytes) (r : LinkResult c) (b' : Bytes) : Type 0 where
  pub answered : r.answered ≡ link_answer c b
  pub list : r.list ≡ link_list c b
  pub image : b' ≡ link_after c b

abbrev pub StepPromised : (s : Step) → Bytes → StepResult s → Bytes → Type 0
StepPromised (base c) b r b' = Promised c b r b'
StepPromised (link c) b r b' = LinkPromised c b r b'

abbrev pub StepsRun : Bytes → (ss : List Step) → StepResults ss → Bytes → Type 0
StepsRun b [] rs b' = b' ≡ b
StepsRun b (s ∷ ss) rs b' = (mid : Bytes) × StepPromised s b rs.0 mid × StepsRun mid ss rs.1 b'

-- The list of the base's calls that such a list is. It is told by the tree, and looks at no answer and at no byte.
unfoldable pub turns_in : Step → Tree → List Call
turns_in (base c) t = c ∷ []
turns_in (link c) t = link_turns c t

unfoldable pub flat : List Step → Tree → List Call
flat [] t = []
flat (s ∷ ss) t = turns_in s t ++ flat ss (replay (turns_in s t) t)

unfoldable pub step_replayed : (s : Step) → Tree → StepResult s
step_replayed (base c) t = record { answered = tree_answer c t; lent = tree_buffer c t }
step_replayed (link c) t = record { answered = tree_link_answer c t; list = tree_link_list c t }

unfoldable pub steps_replayed : (ss : List Step) → Tree → StepResults ss
steps_replayed [] t = tt
steps_replayed (s ∷ ss) t = (step_replayed s t, steps_replayed ss (replay (turns_in s t) t))

-- what the replay decides of the results: of a link call all of it, of a base's call what `shown_results` keeps (paper 02 §11)
abbrev pub step_shown : (s : Step) → StepResult s → StepResult s
step_shown (base c) r = record { answered = shown c r.answered; lent = lent_shown c r.lent }
step_shown (link c) r = r

abbrev pub steps_shown : (ss : List Step) → StepResults ss → StepResults ss
steps_shown [] rs = tt
steps_shown (s ∷ ss) rs = (step_shown s rs.0, steps_shown ss rs.1)

-- the flat list runs on the same image to the same image, so all of demand 3 holds of it; and each step answers as the replay says
pub record StepsDemanded (b : Bytes) (t : Tree) (ss : List Step) (rs : StepResults ss) (b' : Bytes) : Type 0 where
  pub results : Results (flat ss t)
  pub runs : Runs b (flat ss t) results b'
  pub demanded : Demanded b t (flat ss t) results b'
  pub answered : steps_shown ss rs ≡ steps_replayed ss t

-- ---- Equal lists and equal bytes go together.

pub record ListsAndBytes : Type 0 where
  -- a list that may be written is what its file reads as
  pub read_back : (rs : List Row) → bad_row rs ≡ none → read_list (file_of rs) ≡ rows rs
  -- a file that reads as a list is the file of that list, which may be written
  pub written_so : (v : Bytes) → ((i : ℕ) → byte_at v i < 256) → (rs : List Row) → read_list v ≡ rows rs → (v ≡ file_of rs) × (bad_row rs ≡ none)

-- each of these calls is granted on the tree as the last one left it
abbrev pub InTurn : List Call → Tree → Type 0
InTurn [] t = Unit {0}
InTurn (c ∷ cs) t = Passes (refusals c t) × InTurn cs (tree_after c t)

-- what a granted writing wrote is read, whatever the list holds beforehand, if only it is long enough
pub record ReadsBack (d : Bytes) (rs : List Row) (b : Bytes) (list : List Row) : Type 0 where
  pub answered : link_answer (read_links d list) b ≡ granted (length rs)
  pub filled : link_list (read_links d list) b ≡ rs ++ drop (length rs) list

pub record LinkDemand : Type 0 where
  pub untouched : (c : LinkCall) (b : Bytes) (f : Refusal) → link_answer c b ≡ refused f → LinkUntouched c b f
  pub unsound : (c : LinkCall) (b : Bytes) (f : Refusal) → answer verdict b ≡ refused f → link_answer c b ≡ refused f
  pub as_tree : (c : LinkCall) (b : Bytes) → T (sound b) → LinkAsTree c b
  pub lists : (b : Bytes) (t : Tree) → Starts b t → (ss : List Step) (rs : StepResults ss) (b' : Bytes) → StepsRun b ss rs b' → StepsDemanded b t ss rs b'
  pub lists_and_bytes : ListsAndBytes
  -- a granted writing's removal, make and write are each granted, and its rows are there to be read
  pub in_turn : (d date : Bytes) (rs : List Row) (b : Bytes) → link_answer (write_links d date rs) b ≡ granted tt → InTurn (writing d date rs (tree_of b)) (tree_of b)
  pub reads_back : (d date : Bytes) (rs : List Row) (b : Bytes) → link_answer (write_links d date rs) b ≡ granted tt
      → (list : List Row) → length rs ≤ length list → ReadsBack d rs (link_after (write_links d date rs) b) list
