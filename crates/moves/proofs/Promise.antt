-- What is promised of §13's two calls: the lines say who refuses, and a granted call carries out an accepted proposal, or makes one.
use mathlib.Core.Path.{◌≡◌, refl, sym, ap, subst}
use native.Mathlib.Decide.{ℕ_discrete}
use mathlib.Core.Bool.{Bool, true, false, not}
use lib.ListN.{length}
use lib.Dec.{T}
use Rattle.volume.specs.Bytes.{Bytes}
use Rattle.volume.proofs.Tests.{member_occ}
use Rattle.model.specs.Layout.{page_count}
use Rattle.model.specs.Sound.{sound, reached_entries}
use Rattle.model.specs.Image.{tree_of}
use Rattle.model.specs.Call.{verdict, Verdict, Refusal, refusal, Answer, refused, granted}
use Rattle.model.specs.Meaning.{answer}
use Rattle.laws.proofs.Facts.{sound_facts_lem}
use Rattle.laws.proofs.Lines.{not_granted}
use Rattle.laws.proofs.Lists.{demanded}
use Rattle.moves.specs.Tidy.{accepted, moved, tidy_answer, tidy_after}
use Rattle.moves.specs.Propose.{propose_answer, propose_after}
use Rattle.moves.specs.Demand.{TidyStops, by_verdict, by_length, by_proposal, Tidied, TidyDemand, ProposeStops, ProposeDemand}
use Rattle.moves.specs.Demand as Demand
use Rattle.moves.proofs.Places.{accepted_is}
use Rattle.moves.proofs.Tidied.{moved_sound, entries_moved}
use Rattle.moves.proofs.Carried.{pages_placed, byte_carried}
use Rattle.moves.proofs.Helper.{helper_accepted}
use Rattle.moves.proofs.Answers.{verdict_sound, TidySays, tidy_stops, tidy_long, tidy_unaccepted, tidy_accepted, ProposeSays, propose_stops, propose_long, propose_granted}

-- ---- what an accepted proposal leaves

carried_out : (b places : Bytes) → T (sound b) → T (accepted b places) → Tidied b places (moved places b)
carried_out b places h k =
    let f = sound_facts_lem h in
    let a = accepted_is b places k in
    let m = moved_sound b places h k in
    record {
      is_sound = m.0;
      means = m.1;
      long = m.2;
      reaches = entries_moved b f places a;
      placed = λ at n. pages_placed b f places a at (member_occ at (reached_entries b) n);
      carried = byte_carried b f places a;
      afresh = λ cs rs b' run. demanded cs (moved places b) (tree_of b) m.0 m.1 rs b' run;
    }

-- ---- the three ways to be refused, and the one to be granted

data Goes (b places target : Bytes) : Answer (Unit {0}) → Bytes → Type 0 where
  stops : (f : Refusal) → TidyStops b places target f → Goes b places target (refused f) target
  runs : T (sound b) → T (accepted b places) → Goes b places target (granted tt) (moved places b)

goes : (b places target : Bytes) → Goes b places target (tidy_answer b places target) (tidy_after b places target)
goes b places target = by_verdict_lem (answer verdict b) refl
  where
    say : {a : Answer (Unit {0})} {v : Bytes} → TidySays b places target a v → Goes b places target a v → Goes b places target (tidy_answer b places target) (tidy_after b places target)
    say {a} {v} s g = subst (λ (x : Answer (Unit {0})). Goes b places target x (tidy_after b places target)) s.0 (subst (Goes b places target a) s.1 g)

    by_check : T (sound b) → length target ≡ length b → (c : Bool) → accepted b places ≡ c → Goes b places target (tidy_answer b places target) (tidy_after b places target)
    by_check h e true q = say (tidy_accepted b places target h e q) (runs h (subst (λ (x : Bool). T x) (sym q) tt))
    by_check h e false q = say (tidy_unaccepted b places target h e q) (stops (refusal 27) (by_proposal h e (subst (λ (x : Bool). T (not x)) (sym q) tt)))

    by_verdict_lem : (a : Answer Verdict) → answer verdict b ≡ a → Goes b places target (tidy_answer b places target) (tidy_after b places target)
    by_verdict_lem (refused f) e = say (tidy_stops b places target e) (stops f (by_verdict f e))
    by_verdict_lem (granted v) e =
        let h = verdict_sound b e in
        elim (ℕ_discrete (length target) (length b)) [
          | yes q ↦ by_check h q (accepted b places) refl
          | no n ↦ say (tidy_long b places target h n) (stops (refusal 28) (by_length h n))
        ]

reason : {A : Type 0} → Answer A → Refusal
reason (refused f) = f
reason (granted x) = refusal 0

pub tidy_demand : TidyDemand
unfolding reason
tidy_demand = record {
  refuses = λ b places target f e. refuses b places target (goes b places target) e;
  grants = λ b places target h e k. sym (tidy_accepted b places target h e (true_of (accepted b places) k)).0;
  tidies = λ b places target e. tidies b places target (goes b places target) e;
}
  where
    true_of : (c : Bool) → T c → c ≡ true
    true_of true t = refl
    true_of false t = absurd t

    refuses : (b places target : Bytes) {a : Answer (Unit {0})} {v : Bytes} {f : Refusal} → Goes b places target a v → a ≡ refused f → TidyStops b places target f × (v ≡ target)
    refuses b places target (stops f s) e = (subst (TidyStops b places target) (ap reason e) s, refl)
    refuses b places target (runs h k) e = absurd (not_granted e)

    tidies : (b places target : Bytes) {a : Answer (Unit {0})} {v : Bytes} → Goes b places target a v → a ≡ granted tt → Tidied b places v
    tidies b places target (stops f s) e = absurd (not_granted (sym e))
    tidies b places target (runs h k) e = carried_out b places h k

-- ---- propose

data Makes (b row : Bytes) : Answer (Unit {0}) → Bytes → Type 0 where
  stops : (f : Refusal) → ProposeStops b row f → Makes b row (refused f) row
  runs : {v : Bytes} → T (accepted b v) → Makes b row (granted tt) v

makes : (b row : Bytes) → Makes b row (propose_answer b row) (propose_after b row)
makes b row = by_verdict_lem (answer verdict b) refl
  where
    say : {a : Answer (Unit {0})} {v : Bytes} → ProposeSays b row a v → Makes b row a v → Makes b row (propose_answer b row) (propose_after b row)
    say {a} {v} s g = subst (λ (x : Answer (Unit {0})). Makes b row x (propose_after b row)) s.0 (subst (Makes b row a) s.1 g)

    by_verdict_lem : (a : Answer Verdict) → answer verdict b ≡ a → Makes b row (propose_answer b row) (propose_after b row)
    by_verdict_lem (refused f) e = say (propose_stops b row e) (stops f (Demand.by_verdict f e))
    by_verdict_lem (granted v) e =
        let h = verdict_sound b e in
        elim (ℕ_discrete (length row) (page_count b)) [
          | yes q ↦ say (propose_granted b row h q) (runs (helper_accepted b row h q))
          | no n ↦ say (propose_long b row h n) (stops (refusal 27) (Demand.by_length h n))
        ]

pub propose_demand : ProposeDemand
unfolding reason
propose_demand = record {
  refuses = λ b row f e. refuses b row (makes b row) e;
  grants = λ b row h e. sym (propose_granted b row h e).0;
  proposes = λ b row e. proposes b row (makes b row) e;
}
  where
    refuses : (b row : Bytes) {a : Answer (Unit {0})} {v : Bytes} {f : Refusal} → Makes b row a v → a ≡ refused f → ProposeStops b row f × (v ≡ row)
    refuses b row (stops f s) e = (subst (ProposeStops b row) (ap reason e) s, refl)
    refuses b row (runs k) e = absurd (not_granted e)

    proposes : (b row : Bytes) {a : Answer (Unit {0})} {v : Bytes} → Makes b row a v → a ≡ granted tt → T (accepted b v)
    proposes b row (stops f s) e = absurd (not_granted (sym e))
    proposes b row (runs k) e = k
