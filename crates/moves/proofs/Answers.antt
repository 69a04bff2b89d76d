-- The lines of the two calls: those of the image stand first, and stop exactly where the verdict does; then come the calls' own.
use mathlib.Core.Path.{◌≡◌, refl, sym, ap, ◌∙◌, subst}
use mathlib.Core.Logic.{◌≢◌}
use Prim.Native.Nat.{ℕ}
use native.Mathlib.Omega.{arith}
use mathlib.Core.Bool.{Bool, true, false, not}
use mathlib.Core.List.{List, [], ◌∷◌, ◌++◌}
use lib.ListN.{length}
use lib.Dec.{T, eqb, ltb, eqb→eq, ltb→lt}
use Rattle.volume.specs.Bytes.{Bytes}
use Rattle.volume.proofs.Tests.{eq-eqb}
use Rattle.model.specs.Layout.{page_count, valid_length, valid_header}
use Rattle.model.specs.Sound.{sound}
use Rattle.model.specs.Image.{tree_of}
use Rattle.model.specs.Judge.{judge}
use Rattle.model.specs.Tree.{free_number}
use Rattle.model.specs.Call.{verdict, Refusal, refusal, Answer, refused, granted}
use Rattle.model.specs.Refusal.{Line, refusals, settle}
use Rattle.model.specs.Meaning.{first_fault, image_lines, is_format, lines, told, answer}
use Rattle.model.specs.MeaningOf
use Rattle.model.specs.RefusalOf
use Rattle.laws.proofs.Facts.{sound_facts_lem}
use Rattle.laws.proofs.Lines.{not_granted}
use Rattle.audit.specs.Demand.{is_granted}
use Rattle.audit.proofs.Promise.{audit_demand}
use Rattle.moves.specs.Tidy.{accepted, moved, tidy_lines, tidy_answer, tidy_after}
use Rattle.moves.specs.Propose.{order, numbered, propose_lines, propose_answer, propose_after}

-- ---- tests

yes_of : (c : Bool) → T c → not c ≡ false
yes_of true t = refl
yes_of false t = absurd t

ne_of : {m n : ℕ} → m ≢ n → not (eqb m n) ≡ true
ne_of {m} {n} h = go (eqb m n) refl
  where
    go : (c : Bool) → eqb m n ≡ c → not c ≡ true
    go true e = absurd (h (eqb→eq m n (subst (λ (x : Bool). T x) (sym e) tt)))
    go false e = refl

-- ---- the image's lines

-- on a sound image none of them holds
image_clear : {A : Type 0} (b : Bytes) (ls : List Line) (g : Refusal → A) (x : A) → T (sound b) → settle (image_lines b ++ ls) g x ≡ settle ls g x
unfolding settle
image_clear b ls g x h = let f = sound_facts_lem h in rw (yes_of (valid_length (length b)) f.fits, yes_of (valid_header b) f.headed, yes_of (sound b) h)

reason : {A : Type 0} → Answer A → Refusal
reason (refused f) = f
reason (granted x) = refusal 0

-- of two lists that begin with the same three lines, where the first stops in these the second does
same_stop : {A B : Type 0} (c d e : Bool) (r s t f : Refusal) (vs ls : List Line) (x : B) (g : Refusal → A) (y : A) → settle vs refused (granted x) ≡ granted x
    → settle {A = Answer B} ((c, r) ∷ (d, s) ∷ (e, t) ∷ vs) refused (granted x) ≡ refused f → settle ((c, r) ∷ (d, s) ∷ (e, t) ∷ ls) g y ≡ g f
unfolding settle reason
same_stop true d e r s t f vs ls x g y v w = ap g (ap reason w)
same_stop false true e r s t f vs ls x g y v w = ap g (ap reason w)
same_stop false false true r s t f vs ls x g y v w = ap g (ap reason w)
same_stop false false false r s t f vs ls x g y v w = absurd (not_granted (sym v ∙ w))

-- the verdict needs no pages
room : (n : ℕ) → ltb n 0 ≡ false
room n = go (ltb n 0) refl
  where
    go : (c : Bool) → ltb n 0 ≡ c → c ≡ false
    go true e = absurd (omega (arith, ltb→lt n 0 (subst (λ (x : Bool). T x) (sym e) tt)))
    go false e = refl

-- where the verdict refuses, a call that has the image's lines first gives the same refusal
image_stops : {A : Type 0} (b : Bytes) (f : Refusal) (ls : List Line) (g : Refusal → A) (x : A) → answer verdict b ≡ refused f → settle (image_lines b ++ ls) g x ≡ g f
unfolding MeaningOf.answer MeaningOf.lines is_format RefusalOf.refusals RefusalOf.earlier RefusalOf.later RefusalOf.wanted settle
image_stops b f ls g x e =
    same_stop (not (valid_length (length b))) (not (valid_header b)) (not (sound b)) (refusal 1) (refusal 2) (first_fault (judge b)) f
    (refusals verdict (tree_of b)) ls (told verdict (tree_of b)) g x (rw (room (free_number (tree_of b)))) e

pub verdict_sound : (b : Bytes) {v : _} → answer verdict b ≡ granted v → T (sound b)
verdict_sound b e = subst (λ (x : Bool). T x) (sym (audit_demand.alike b ∙ ap is_granted e)) tt

-- ---- tidy

module _ (b places target : Bytes) where
  -- the answer and what the target holds
  abbrev pub TidySays : Answer (Unit {0}) → Bytes → Type 0
  TidySays a v = (a ≡ tidy_answer b places target) × (v ≡ tidy_after b places target)

  abbrev own : List Line
  own = (not (eqb (length target) (length b)), refusal 28) ∷ (not (accepted b places), refusal 27) ∷ []

  pub tidy_stops : {f : Refusal} → answer verdict b ≡ refused f → TidySays (refused f) target
  unfolding tidy_answer tidy_after tidy_lines
  tidy_stops {f} e = (sym (image_stops b f _ refused (granted tt) e), sym (image_stops b f _ (λ r. target) (moved places b) e))

  pub tidy_long : T (sound b) → length target ≢ length b → TidySays (refused (refusal 28)) target
  unfolding tidy_answer tidy_after tidy_lines settle
  tidy_long h n = (sym (image_clear b own refused (granted tt) h ∙ rw (ne_of n)), sym (image_clear b own (λ r. target) (moved places b) h ∙ rw (ne_of n)))

  module _ (h : T (sound b)) (e : length target ≡ length b) where
    same : not (eqb (length target) (length b)) ≡ false
    same = yes_of (eqb (length target) (length b)) (eq-eqb e)

    pub tidy_unaccepted : accepted b places ≡ false → TidySays (refused (refusal 27)) target
    unfolding tidy_answer tidy_after tidy_lines settle
    tidy_unaccepted n = (sym (image_clear b own refused (granted tt) h ∙ rw (same, n)), sym (image_clear b own (λ r. target) (moved places b) h ∙ rw (same, n)))

    pub tidy_accepted : accepted b places ≡ true → TidySays (granted tt) (moved places b)
    unfolding tidy_answer tidy_after tidy_lines settle
    tidy_accepted n = (sym (image_clear b own refused (granted tt) h ∙ rw (same, n)), sym (image_clear b own (λ r. target) (moved places b) h ∙ rw (same, n)))

-- ---- propose

module _ (b row : Bytes) where
  abbrev pub ProposeSays : Answer (Unit {0}) → Bytes → Type 0
  ProposeSays a v = (a ≡ propose_answer b row) × (v ≡ propose_after b row)

  abbrev mine : List Line
  mine = (not (eqb (length row) (page_count b)), refusal 27) ∷ []

  pub propose_stops : {f : Refusal} → answer verdict b ≡ refused f → ProposeSays (refused f) row
  unfolding propose_answer propose_after propose_lines
  propose_stops {f} e = (sym (image_stops b f _ refused (granted tt) e), sym (image_stops b f _ (λ r. row) (numbered 0 (order b) row) e))

  pub propose_long : T (sound b) → length row ≢ page_count b → ProposeSays (refused (refusal 27)) row
  unfolding propose_answer propose_after propose_lines settle
  propose_long h n = (sym (image_clear b mine refused (granted tt) h ∙ rw (ne_of n)), sym (image_clear b mine (λ r. row) (numbered 0 (order b) row) h ∙ rw (ne_of n)))

  pub propose_granted : T (sound b) → length row ≡ page_count b → ProposeSays (granted tt) (numbered 0 (order b) row)
  unfolding propose_answer propose_after propose_lines settle
  propose_granted h e =
      let n = yes_of (eqb (length row) (page_count b)) (eq-eqb e) in
      (sym (image_clear b mine refused (granted tt) h ∙ rw n), sym (image_clear b mine (λ r. row) (numbered 0 (order b) row) h ∙ rw n))
