-- The base's calls in turn, of which the first refusal ends it: what a call's answer says of the calls from it on. A make tried first says by 8 that there is
-- an old file. Done on a copy of the image that is copied back once all are granted, they leave what `run_whole` says.
use mathlib.Core.Path.{◌≡◌, refl, sym, ap, ◌∙◌, subst}
use Prim.Native.Nat.{ℕ, ◌≤◌, ◌+◌}
use native.Mathlib.Omega.{arith}
use mathlib.Core.Bool.{Bool, true, false}
use mathlib.Core.List.{List, [], ◌∷◌, ◌++◌, append-nil}
use lib.ListN.{length, take, replicate, length-replicate, drop_of_length-le}
use lib.Seq.{length-take-le}
use lib.Dec.{eqb}
use Rattle.volume.specs.Bytes.{Bytes, put}
use Rattle.std.specs.Prelude.{if◌then◌else◌, ⊤, Result, Ok, Err, IsErrAnd}
use Rattle.std.proofs.lemmas.Result.{err_from_is_err_and}
use Rattle.model.specs.Call.{Call, make_file, write, remove_file, Told, Refusal, Answer, refused, granted}
use Rattle.model.specs.Meaning.{answer, after}
use Rattle.laws.proofs.Lines.{not_granted}
use Rattle.laws.proofs.Steps.{untouched}
use Rattle.refusals.specs.declared.Refusal.{Refusal as Base}
use Rattle.refusals.specs.Told.{told}
use Rattle.answers.specs.Answers.{change_answer}
use Rattle.link_list.specs.Links.{run_after}
use Rattle.link_anew.specs.Anew.{replacing, is_taken, taken, anew, first_of, then_answer, run_answer, if_granted, run_whole, RunsTo, KeptBy}

-- ---- one call

pub turn_refused : (c : Call) (cs : List Call) (b : Bytes) (f : Refusal) → refused f ≡ answer c b → refused f ≡ run_answer (c ∷ cs) b
unfolding run_answer then_answer
turn_refused c cs b f e = ap (λ (a : Answer (Told c)). then_answer a (run_answer cs (after c b))) e

pub turn_granted : (c : Call) (cs : List Call) (b : Bytes) (y : Told c) → granted y ≡ answer c b → run_answer cs (after c b) ≡ run_answer (c ∷ cs) b
unfolding run_answer then_answer
turn_granted c cs b y e = ap (λ (a : Answer (Told c)). then_answer a (run_answer cs (after c b))) e

-- a call that was refused ends it, by the exit of a `?`
stops : (c : Call) (cs : List Call) (b b' : Bytes) (r : Result ⊤ Base) (q : Base) → IsErrAnd r (λ y. y ≡ q) → refused (told q) ≡ answer c b → RunsTo r (c ∷ cs) b b'
stops c cs b b' r q is k = let p = err_from_is_err_and r is in rw (p.1, p.2) (turn_refused c cs b (told q) k)

-- one that was granted is followed by the others
goes_on : (c : Call) (cs : List Call) (b b₁ b₂ : Bytes) (y : Told c) → granted y ≡ answer c b → b₁ ≡ after c b → (r : Result ⊤ Base) → RunsTo r cs b₁ b₂ → RunsTo r (c ∷ cs) b b₂
unfolding run_after
goes_on c cs b b₁ b₂ y e k (Ok _) p = (p.0 ∙ ap (run_answer cs) k ∙ turn_granted c cs b y e, p.1 ∙ ap (run_after cs) k)
goes_on c cs b b₁ b₂ y e k (Err q) p = p ∙ ap (run_answer cs) k ∙ turn_granted c cs b y e

written_last : (path v b b' : Bytes) (r : Result ⊤ Base) → change_answer r ≡ answer (write path 0 v) b → b' ≡ after (write path 0 v) b → RunsTo r (write path 0 v ∷ []) b b'
unfolding run_answer run_after
written_last path v b b' (Ok _) e k = (turn_granted (write path 0 v) [] b tt e, k)
written_last path v b b' (Err q) e k = turn_refused (write path 0 v) [] b (told q) e

-- ---- a file in place of an old one

module _ (path date v b : Bytes) where
  pub make_stops : (b' : Bytes) (r : Result ⊤ Base) (q : Base) → IsErrAnd r (λ y. y ≡ q) → refused (told q) ≡ answer (make_file path date) b → RunsTo r (replacing path date false v) b b'
  unfolding replacing
  make_stops b' r q is k = stops (make_file path date) (write path 0 v ∷ []) b b' r q is k

  pub made_written : (b₁ b₂ : Bytes) → granted tt ≡ answer (make_file path date) b → b₁ ≡ after (make_file path date) b
      → (r : Result ⊤ Base) → change_answer r ≡ answer (write path 0 v) b₁ → b₂ ≡ after (write path 0 v) b₁ → RunsTo r (replacing path date false v) b b₂
  unfolding replacing
  made_written b₁ b₂ k s r w t = goes_on (make_file path date) (write path 0 v ∷ []) b b₁ b₂ tt k s r (written_last path v b₁ b₂ r w t)

  pub removal_stops : (b' : Bytes) (r : Result ⊤ Base) (q : Base) → IsErrAnd r (λ y. y ≡ q) → refused (told q) ≡ answer (remove_file path) b → RunsTo r (replacing path date true v) b b'
  unfolding replacing
  removal_stops b' r q is k = stops (remove_file path) (make_file path date ∷ write path 0 v ∷ []) b b' r q is k

  pub removed_made : (b₁ b₂ : Bytes) → granted tt ≡ answer (remove_file path) b → b₁ ≡ after (remove_file path) b
      → (r : Result ⊤ Base) → RunsTo r (replacing path date false v) b₁ b₂ → RunsTo r (replacing path date true v) b b₂
  unfolding replacing
  removed_made b₁ b₂ k s r w = goes_on (remove_file path) (make_file path date ∷ write path 0 v ∷ []) b b₁ b₂ tt k s r w

-- a call that was granted, or left what it leaves
pub done_keeps : (c : Call) (b b' : Bytes) (y : Told c) → granted y ≡ answer c b → KeptBy c b b'
done_keeps c b b' y k f u = absurd (not_granted (k ∙ u))

pub after_keeps : (c : Call) (b b' : Bytes) → b' ≡ after c b → KeptBy c b b'
after_keeps c b b' k f e = k ∙ (untouched c b f e).image

-- ---- the make tells whether there is an old file

module _ (path date v b : Bytes) where
  abbrev Puts : Bool → Result ⊤ Base → Bytes → Type 0
  Puts old r b' = RunsTo r (replacing path date old v) b b' × KeptBy (if old then remove_file path else make_file path date) b b'

  none_old : (r : Result ⊤ Base) (b' : Bytes) → taken path date b ≡ false → RunsTo r (replacing path date false v) b b' → KeptBy (make_file path date) b b' → Puts (taken path date b) r b'
  none_old r b' e p k = subst (λ (old : Bool). Puts old r b') (sym e) (p, k)

  pub put_made : (b₁ b₂ : Bytes) → granted tt ≡ answer (make_file path date) b → b₁ ≡ after (make_file path date) b
      → (r : Result ⊤ Base) → change_answer r ≡ answer (write path 0 v) b₁ → b₂ ≡ after (write path 0 v) b₁
      → RunsTo r (anew path date v b) b b₂ × KeptBy (first_of path date b) b b₂
  unfolding is_taken
  put_made b₁ b₂ made s r w t =
      none_old r b₂ (ap is_taken (sym made)) (made_written path date v b b₁ b₂ made s r w t) (done_keeps (make_file path date) b b₂ tt made)

-- ---- The same by the make's answer alone. `put_in_turn` names these laws, and by them the check proves both returns after a refused make. A refused make
-- leaves the image, and ends the calls that begin with it.

pub make_leaves : (path date b : Bytes) → after (make_file path date) b ≡ if_granted (answer (make_file path date) b) b (after (make_file path date) b)
unfolding if_granted
make_leaves path date b = go (answer (make_file path date) b) refl
  where
    go : (a : Answer (Unit {0})) → answer (make_file path date) b ≡ a → after (make_file path date) b ≡ if_granted a b (after (make_file path date) b)
    go (refused f) e = (untouched (make_file path date) b f e).image
    go (granted y) e = refl

pub make_first : (path date v b : Bytes) → run_answer (replacing path date false v) b ≡ then_answer (answer (make_file path date) b) (run_answer (write path 0 v ∷ []) (after (make_file path date) b))
unfolding replacing run_answer
make_first path date v b = refl

abbrev pub says_taken : {A : Type 0} → Answer A → Bool
says_taken (refused f) = eqb f.number 8
says_taken (granted y) = false

pub taken_told : (path date b : Bytes) → taken path date b ≡ says_taken (answer (make_file path date) b)
unfolding is_taken
taken_told path date b = go (answer (make_file path date) b)
  where
    go : (a : Answer (Unit {0})) → is_taken a ≡ says_taken a
    go (refused f) = refl
    go (granted y) = refl

-- Where the make says 8 the first call is the removal, which tells nothing but whether it was refused. The premise stands in the conclusion too: `grind`
-- uses a law only where a call of its conclusion stands in the goal.
abbrev pub change_told : {A : Type 0} → Answer A → Answer (Unit {0})
change_told (refused f) = refused f
change_told (granted y) = granted tt

pub removal_first : (path date b : Bytes) → taken path date b ≡ true → (taken path date b ≡ true) × (change_told (answer (first_of path date b) b) ≡ answer (remove_file path) b)
removal_first path date b e = (e, ap (λ (old : Bool). change_told (answer (if old then remove_file path else make_file path date) b)) e ∙ go (answer (remove_file path) b))
  where
    go : (a : Answer (Unit {0})) → change_told a ≡ a
    go (refused f) = refl
    go (granted y) = refl

-- ---- on a copy

-- room for the copy
pub room_long : (n m : ℕ) → n ≤ m → n ≡ length (take {A = ℕ} n (replicate m 0))
room_long n m h = sym (length-take-le n (replicate m 0) (omega (arith, length-replicate {A = ℕ} m 0)))

put_over : (v w : Bytes) → length w ≤ length v → put 0 v w ≡ v
put_over v w h = let k : length w ≤ 0 + length v = omega arith in ap (λ (u : Bytes). v ++ u) (drop_of_length-le w k) ∙ append-nil v

-- the copy, and what came of it
module _ (path date v b c c₁ c₂ : Bytes) (long : length c ≡ length b) (copied : c₁ ≡ put 0 b c) where
  abbrev calls : List Call
  calls = anew path date v b

  same_bytes : c₁ ≡ b
  same_bytes = copied ∙ put_over b c (omega arith)

  pub copy_refused : (q : Base) → RunsTo (Err q) (anew path date v c₁) c₁ c₂ → (refused (told q) ≡ run_answer calls b) × (b ≡ run_whole calls b)
  unfolding run_whole if_granted
  copy_refused q runs =
      let k : refused (told q) ≡ run_answer calls b = subst (λ (x : Bytes). refused (told q) ≡ run_answer (anew path date v x) x) same_bytes runs in
      (k, ap (λ (a : Answer (Unit {0})). if_granted a b (run_after calls b)) k)

  pub copy_done : (granted tt ≡ run_answer (anew path date v c₁) c₁) × (c₂ ≡ run_after (anew path date v c₁) c₁) → (b' : Bytes) → length c₂ ≡ length b → b' ≡ put 0 c₂ b
      → (granted tt ≡ run_answer calls b) × (b' ≡ run_whole calls b)
  unfolding run_whole if_granted
  copy_done runs b' l k =
      let p : (granted tt ≡ run_answer calls b) × (c₂ ≡ run_after calls b) = subst (λ (x : Bytes). (granted tt ≡ run_answer (anew path date v x) x) × (c₂ ≡ run_after (anew path date v x) x)) same_bytes runs in
      (p.0, k ∙ put_over c₂ b (omega arith) ∙ p.1 ∙ ap (λ (a : Answer (Unit {0})). if_granted a b (run_after calls b)) p.0)
