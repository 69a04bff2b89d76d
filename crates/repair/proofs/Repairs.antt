-- The call `repair`: its lines are those of the verdict up to the walk, so a refusal is the verdict's, and what the verdict tells after a clean walk,
-- 19 and 3, is mended.
use mathlib.Core.Path.{◌≡◌, refl, sym, ap, ◌∙◌, subst}
use mathlib.Core.Logic.{inl, inr}
use Prim.Native.Nat.{ℕ, ◌-◌}
use native.Mathlib.Omega.{arith}
use mathlib.Core.Bool.{Bool, true, false, not, ◌&&◌}
use mathlib.Core.Option.{Option, none, some}
use mathlib.Core.List.{List, [], ◌∷◌}
use lib.ListN.{length, get_or}
use lib.Dec.{T, eqb}
use Rattle.volume.specs.Bytes.{Bytes, byte_at}
use Rattle.std.specs.Prelude.{if◌then◌else◌}
use Rattle.volume.specs.Lists.{any, member, first, count_from}
use Rattle.volume.proofs.Occ.{mem_cons}
use Rattle.volume.proofs.Tests.{not_not_of, member_occ}
use Rattle.model.specs.Layout.{page_count, valid_length, valid_header, free_count, page_bit, zero_bits}
use Rattle.model.specs.Version1.{view}
use Rattle.model.specs.Sound.{sound}
use Rattle.model.specs.Judge.{Fault, bad_entry, bad_chain, owned_twice, marked_free, lost_page, bad_count, Judged, fault, clean, then_judge, lost_or, judge_rest, judge, is_clean, judge_walk, judge_view}
use Rattle.model.specs.Image.{tree_of}
use Rattle.model.specs.Call.{verdict, Refusal, refusal, Answer, refused, granted}
use Rattle.model.specs.Refusal.{settle}
use Rattle.model.specs.Meaning.{fault_told, first_fault, is_format, answer}
use Rattle.laws.proofs.Facts.{sound_facts_lem}
use Rattle.laws.proofs.Judged.{Walkable, walk_clean, walkable_clean, judge_sound}
use Rattle.model.specs.Demands.{soundly}
use Rattle.model.specs.MeaningOf
use Rattle.laws.proofs.Headline.{demand_3}
use Rattle.laws.proofs.Lines.{passed, settle_skip, settle_holds, not_granted}
use Rattle.repair.specs.Repair.{repaired, repair_lines, repair_answer, repair_after}
use Rattle.repair.specs.Demand.{unmendable, Refuses, Mends, Mendable, is_sound, by_number, RepairDemand}
use Rattle.repair.proofs.Mended.{mended_is, mended_tree, mended_sound, sound_walkable, sound_repaired}
use Rattle.repair.proofs.WalkFaults.{OfWalk, walk_kind}

pub of_not : (c : Bool) → c ≡ false → T (not c)
of_not c e = subst (λ (x : Bool). T (not x)) (sym e) tt

-- ---- what the verdict tells of a walk that ends in a fault

judge_fault : (b : Bytes) (f : Fault) → judge_walk b ≡ fault f → judge b ≡ fault f
unfolding judge_view then_judge
judge_fault b f e = ap (λ (j : Judged). then_judge j (judge_rest (view b))) e

verdict_length : (b : Bytes) → T (not (valid_length (length b))) → answer verdict b ≡ refused (refusal 1)
unfolding MeaningOf.answer MeaningOf.lines
verdict_length b h = settle_holds refused (not (valid_length (length b))) (refusal 1) _ _ h

verdict_header : (b : Bytes) → T (valid_length (length b)) → T (not (valid_header b)) → answer verdict b ≡ refused (refusal 2)
unfolding MeaningOf.answer MeaningOf.lines is_format
verdict_header b v h =
    settle_skip refused (not (valid_length (length b))) (refusal 1) _ _ (not_not_of (valid_length (length b)) v)
    ∙ settle_holds refused (not (valid_header b)) (refusal 2) _ _ h

verdict_fault : (b : Bytes) (f : Fault) → T (valid_length (length b)) → T (valid_header b) → judge b ≡ fault f → answer verdict b ≡ refused (fault_told f)
unfolding MeaningOf.answer MeaningOf.lines is_format is_clean
verdict_fault b f v h e =
    settle_skip refused (not (valid_length (length b))) (refusal 1) _ _ (not_not_of (valid_length (length b)) v)
    ∙ settle_skip refused (not (valid_header b)) (refusal 2) _ _ (not_not_of (valid_header b) h)
    ∙ settle_holds refused (not (sound b)) (first_fault (judge b)) _ _ (of_not (sound b) (sym (judge_sound b v h) ∙ ap is_clean e))
    ∙ ap {B = Answer _} (λ j. refused (first_fault j)) e

-- ---- the cases of a repair

module _ {A : Type 0} (b : Bytes) (v : T (valid_length (length b))) (h : T (valid_header b)) (w : Walkable b) (g : Refusal → A) (x : A) where
  pub repair_granted : settle (repair_lines b) g x ≡ x
  unfolding repair_lines settle
  repair_granted =
      settle_skip g (not (valid_length (length b))) (refusal 1) ((not (valid_header b), refusal 2) ∷ (not (is_clean (judge_walk b)), first_fault (judge_walk b)) ∷ []) x (not_not_of (valid_length (length b)) v)
      ∙ settle_skip g (not (valid_header b)) (refusal 2) ((not (is_clean (judge_walk b)), first_fault (judge_walk b)) ∷ []) x (not_not_of (valid_header b) h)
      ∙ settle_skip g (not (is_clean (judge_walk b))) (first_fault (judge_walk b)) [] x (not_not_of (is_clean (judge_walk b)) (walkable_clean b w))

data Course (b : Bytes) : Type 0 where
  stopped : (r : Refusal) → repair_answer b ≡ refused r → repair_after b ≡ b
      → answer verdict b ≡ refused r → T (member r.number unmendable) → Course b
  mendable : T (valid_length (length b)) → T (valid_header b) → Walkable b → Course b

fault_number : (f : Fault) → OfWalk (fault f) → T (member (fault_told f).number unmendable)
unfolding any
fault_number (bad_entry d i) h = tt
fault_number (bad_chain d i passed) h = tt
fault_number (owned_twice p) h = tt
fault_number (marked_free p) h = tt
fault_number (lost_page p) h = absurd h
fault_number bad_count h = absurd h

module _ {A : Type 0} (b : Bytes) (g : Refusal → A) (x : A) where
  pub by_length : T (not (valid_length (length b))) → settle (repair_lines b) g x ≡ g (refusal 1)
  unfolding repair_lines
  by_length h = settle_holds g (not (valid_length (length b))) (refusal 1) _ x h

  pub by_header : T (valid_length (length b)) → T (not (valid_header b)) → settle (repair_lines b) g x ≡ g (refusal 2)
  unfolding repair_lines
  by_header v h =
      settle_skip g (not (valid_length (length b))) (refusal 1) _ x (not_not_of (valid_length (length b)) v)
      ∙ settle_holds g (not (valid_header b)) (refusal 2) _ x h

  pub by_fault : T (valid_length (length b)) → T (valid_header b) → (f : Fault) → judge_walk b ≡ fault f → settle (repair_lines b) g x ≡ g (fault_told f)
  unfolding repair_lines is_clean
  by_fault v h f e =
      settle_skip g (not (valid_length (length b))) (refusal 1) _ x (not_not_of (valid_length (length b)) v)
      ∙ settle_skip g (not (valid_header b)) (refusal 2) _ x (not_not_of (valid_header b) h)
      ∙ settle_holds g (not (is_clean (judge_walk b))) (first_fault (judge_walk b)) [] x (of_not (is_clean (judge_walk b)) (ap is_clean e))
      ∙ ap (λ (j : Judged). g (first_fault j)) e

course : (b : Bytes) → Course b
unfolding any repair_answer repair_after
course b = for_length (valid_length (length b)) refl
  where
    for_walk : T (valid_length (length b)) → T (valid_header b) → (j : Judged) → judge_walk b ≡ j → Course b
    for_walk v h (clean marks) e = mendable v h (walk_clean b e).0
    for_walk v h (fault f) e = stopped (fault_told f) (by_fault b refused (granted tt) v h f e) (by_fault b (λ m. b) (repaired b) v h f e)
        (verdict_fault b f v h (judge_fault b f e)) (fault_number f (subst OfWalk e (walk_kind b)))

    for_header : T (valid_length (length b)) → (c : Bool) → valid_header b ≡ c → Course b
    for_header v true e = for_walk v (subst (λ (x : Bool). T x) (sym e) tt) (judge_walk b) refl
    for_header v false e =
        let h = of_not (valid_header b) e in
        stopped (refusal 2) (by_header b refused (granted tt) v h) (by_header b (λ m. b) (repaired b) v h) (verdict_header b v h) tt

    for_length : (c : Bool) → valid_length (length b) ≡ c → Course b
    for_length true e = for_header (subst (λ (x : Bool). T x) (sym e) tt) (valid_header b) refl
    for_length false e =
        let h = of_not (valid_length (length b)) e in
        stopped (refusal 1) (by_length b refused (granted tt) h) (by_length b (λ m. b) (repaired b) h) (verdict_length b h) tt

-- ---- the promises

refuses : (b : Bytes) (f : Refusal) → repair_answer b ≡ refused f → Refuses b f
unfolding repair_answer
refuses b f e = go (course b)
  where
    go : Course b → Refuses b f
    go (stopped r s kept told n) =
        let same : r ≡ f = let q : ◌≡◌ {A = Answer (Unit {0})} (refused r) (refused f) = sym s ∙ e in cc in
        record { image = kept; told = subst (λ (x : Refusal). answer verdict b ≡ refused x) same told; numbered = subst (λ (x : Refusal). T (member x.number unmendable)) same n }
    go (mendable v h w) = absurd (not_granted (sym (repair_granted b v h w refused (granted tt)) ∙ e))

mends : (b : Bytes) → repair_answer b ≡ granted tt → Mends b
unfolding repair_answer repair_after
mends b e = go (course b)
  where
    go : Course b → Mends b
    go (stopped r s kept told n) = absurd (not_granted (sym e ∙ s))
    go (mendable v h w) =
        let a : settle (repair_lines b) (λ m. b) (repaired b) ≡ repaired b = repair_granted b v h w (λ m. b) (repaired b) in
        let m = mended_is b v in
        record {
          is_sound = subst (λ (x : Bytes). T (sound x)) (sym a) (mended_sound b (repaired b) v m w h);
          means = ap tree_of a ∙ mended_tree b (repaired b) v m w;
          long = ap length a ∙ m.long;
          afresh = demand_3 (repair_after b) (tree_of b) (soundly
              (subst (λ (x : Bytes). T (sound x)) (sym a) (mended_sound b (repaired b) v m w h)) (ap tree_of a ∙ mended_tree b (repaired b) v m w));
          rest = λ i ne o. ap (λ (x : Bytes). byte_at x i) a ∙ m.rest i (record { count = ne; map = o });
        }

sound_open : {A : Type 0} (b : Bytes) → T (sound b) → (g : Refusal → A) (x : A) → settle (repair_lines b) g x ≡ x
sound_open b h g x = let f = sound_facts_lem h in repair_granted b f.fits f.headed (sound_walkable b f) g x

not_both : (n : ℕ) → T (member n unmendable) → T (member n (19 ∷ 3 ∷ [])) → ⊥
unfolding any
not_both n h k =
    let y = member_occ n (19 ∷ 3 ∷ []) k in
    elim (mem_cons n 19 (3 ∷ []) y) [
      | inl e ↦ subst (λ (z : ℕ). T (member z unmendable)) e h
      | inr m ↦ elim (mem_cons n 3 [] m) [ inl e ↦ subst (λ (z : ℕ). T (member z unmendable)) e h | inr o ↦ absurd (omega arith) ]
    ]

grants : (b : Bytes) → Mendable b → repair_answer b ≡ granted tt
unfolding repair_answer any
grants b (is_sound h) = sound_open b h refused (granted tt)
grants b (by_number f e k) = go (course b)
  where
    go : Course b → ◌≡◌ {A = Answer (Unit {0})} (settle (repair_lines b) refused (granted tt)) (granted tt)
    go (mendable v h w) = repair_granted b v h w refused (granted tt)
    go (stopped r s kept told n) =
        let same : r ≡ f = let q = sym told ∙ e in cc in
        absurd (not_both f.number (subst (λ (x : Refusal). T (member x.number unmendable)) same n) k)

-- after a clean walk come 19 and 3 alone
rest_number : (b : Bytes) (m : List ℕ) (f : Fault) → judge_rest (view b) m ≡ fault f → T (member (fault_told f).number (19 ∷ 3 ∷ []))
unfolding judge_rest lost_or is_clean any
rest_number b m f e = go (first (λ p. eqb (get_or m p 0) 0 && eqb (page_bit b p) 1) (count_from 1 (page_count b - 1))) e
  where
    counted : (c : Bool) → (if c then clean m else fault bad_count) ≡ fault f → T (member (fault_told f).number (19 ∷ 3 ∷ []))
    counted true q = absurd (subst (λ (j : Judged). T (is_clean j)) q tt)
    counted false q = let same : bad_count ≡ f = cc q in subst (λ (x : Fault). T (member (fault_told x).number (19 ∷ 3 ∷ []))) same tt

    go : (o : Option ℕ) → lost_or (if eqb (page_bit b 0) 1 && eqb (free_count b) (zero_bits b (page_count b)) then clean m else fault bad_count) o ≡ fault f
        → T (member (fault_told f).number (19 ∷ 3 ∷ []))
    go none q = counted (eqb (page_bit b 0) 1 && eqb (free_count b) (zero_bits b (page_count b))) q
    go (some p) q = let same : lost_page p ≡ f = cc q in subst (λ (x : Fault). T (member (fault_told x).number (19 ∷ 3 ∷ []))) same tt

refuses_alike_lem : (b : Bytes) (f : Refusal) → answer verdict b ≡ refused f → T (member f.number unmendable) → repair_answer b ≡ refused f
unfolding repair_answer judge_view then_judge is_clean any
refuses_alike_lem b f e k = go (course b)
  where
    -- an image whose walk is clean is sound, or has the number 19 or 3
    clean_number : T (valid_length (length b)) → T (valid_header b) → Walkable b → T (member f.number (19 ∷ 3 ∷ []))
    clean_number v h w = walked (judge_walk b) refl (walkable_clean b w)
      where
        rest : (m : List ℕ) → judge b ≡ judge_rest (view b) m → (j : Judged) → judge_rest (view b) m ≡ j → T (member f.number (19 ∷ 3 ∷ []))
        rest m q (clean n) r =
            let is_sound = subst (λ (c : Bool). T c) (judge_sound b v h) (subst (λ (j : Judged). T (is_clean j)) (sym (q ∙ r)) tt) in
            absurd (not_granted (sym (demand_3 b (tree_of b) (soundly is_sound refl) [] tt b refl).account.told ∙ e))
        rest m q (fault g) r =
            let same : fault_told g ≡ f = let u = sym (verdict_fault b g v h (q ∙ r)) ∙ e in cc in
            subst (λ (x : Refusal). T (member x.number (19 ∷ 3 ∷ []))) same (rest_number b m g r)

        walked : (j : Judged) → judge_walk b ≡ j → T (is_clean j) → T (member f.number (19 ∷ 3 ∷ []))
        walked (fault g) q c = absurd c
        walked (clean m) q c = rest m (ap (λ (j : Judged). then_judge j (judge_rest (view b))) q) (judge_rest (view b) m) refl

    go : Course b → ◌≡◌ {A = Answer (Unit {0})} (settle (repair_lines b) refused (granted tt)) (refused f)
    go (stopped r s kept told n) = s ∙ (let same : r ≡ f = let q = sym told ∙ e in cc in ap {B = Answer (Unit {0})} (λ x. refused x) same)
    go (mendable v h w) = absurd (not_both f.number k (clean_number v h w))

unchanged : (b : Bytes) → T (sound b) → repair_after b ≡ b
unfolding repair_after
unchanged b h = sound_open b h (λ m. b) (repaired b) ∙ sound_repaired b (sound_facts_lem h)

again : (b : Bytes) → repair_after (repair_after b) ≡ repair_after b
again b = go (repair_answer b) refl
  where
    go : (a : Answer (Unit {0})) → repair_answer b ≡ a → repair_after (repair_after b) ≡ repair_after b
    go (granted u) e = unchanged (repair_after b) (mends b e).is_sound
    go (refused f) e = ap repair_after (refuses b f e).image

pub repair_demand : RepairDemand
repair_demand = record { refuses = refuses; refuses_alike = refuses_alike_lem; grants = grants; mends = mends; unchanged = unchanged; again = again }
