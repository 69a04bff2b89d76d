-- A file made anew in place: where the free pages suffice for the whole of it the write after a granted make is granted, and after a granted removal the make
-- is too. So the first call alone can be refused, which changes nothing then.
use mathlib.Core.Path.{◌≡◌, refl, sym, ap, ◌∙◌, subst}
use Prim.Native.Nat.{ℕ, ◌≤◌, max}
use native.Mathlib.Omega.{arith}
use mathlib.Core.Bool.{Bool, true, false}
use mathlib.Core.List.{List, [], ◌∷◌}
use lib.ListN.{length, replicate, length-replicate}
use lib.Dec.{T, ltb, leb, leb→le, leb-suc-zero, nltb→le}
use borrow.Author.Tests.{le-ltb}
use Rattle.volume.specs.Bytes.{Bytes}
use Rattle.std.specs.Prelude.{if◌then◌else◌, ⊤, Result, Ok, Err}
use Rattle.model.specs.Layout.{pages_for, free_count}
use Rattle.model.specs.Sound.{sound}
use Rattle.model.specs.Tree.{free_number}
use Rattle.model.specs.Image.{tree_of}
use Rattle.model.specs.Call.{Call, verdict, make_file, write, remove_file, Verdict, Refusal, refusal, Answer, refused, granted}
use Rattle.model.specs.Refusal.{Line, make_lines, refusals, settle, Passes}
use Rattle.model.specs.Meaning.{is_format, lines, answer, after}
use Rattle.model.specs.MeaningOf
use Rattle.model.specs.RefusalOf
use Rattle.laws.proofs.Facts.{sound_facts_lem}
use Rattle.laws.proofs.Counting.{free_number_lem}
use Rattle.laws.proofs.Lines.{passed, passes_left, passes_right, granted_passed, not_granted, settle_append}
use Rattle.laws.proofs.Steps.{as_tree_lem}
use Rattle.laws.proofs.Passed.{sound_passed}
use Rattle.store_laws.proofs.Made.{first_pages}
use Rattle.store_laws.proofs.Calls.{opens_first, write_granted}
use Rattle.refusals.specs.declared.Refusal.{Refusal as Base}
use Rattle.refusals.specs.Told.{told}
use Rattle.answers.specs.Answers.{change_answer}
use Rattle.link_list.specs.Links.{run_after}
use Rattle.link_list.proofs.Writing.{settle_passed}
use Rattle.link_anew.specs.Anew.{replacing, taken, anew, first_of, run_answer, if_granted, run_whole, RunsTo, KeptBy, HasRoom}
use Rattle.link_anew.proofs.InTurn.{turn_granted}
use Rattle.link_anew.proofs.Freed.{remade}

-- ---- a make that is granted

module _ (path date b : Bytes) (y : Unit {0}) (e : answer (make_file path date) b ≡ granted y) where
  abbrev space : List Line
  space = (ltb (free_number (tree_of b)) (pages_for 0), refusal 10) ∷ []

  make_passed : T (sound b) × Passes (refusals (make_file path date) (tree_of b))
  unfolding MeaningOf.answer is_format
  make_passed = sound_passed (make_file path date) b tt (granted_passed (lines (make_file path date) b) _ y e)

  making : Passes (make_lines path date (tree_of b))
  unfolding RefusalOf.refusals RefusalOf.earlier RefusalOf.later RefusalOf.wanted
  making = passes_left (make_lines path date (tree_of b)) space make_passed.1

  -- it takes a page
  one_free : pages_for 0 ≤ free_number (tree_of b)
  unfolding RefusalOf.refusals RefusalOf.earlier RefusalOf.later RefusalOf.wanted
  one_free = nltb→le (free_number (tree_of b)) (pages_for 0) (passed _ _ (passes_right (make_lines path date (tree_of b)) space make_passed.1)).0

  -- the write behind it, as a store of the whole would be
  then_granted : (v : Bytes) → pages_for (length v) ≤ free_number (tree_of b) → answer (write path 0 v) (after (make_file path date) b) ≡ granted tt
  then_granted v enough =
      let buffer : Bytes = replicate 256 0 in
      let room : ltb (free_number (tree_of b)) (pages_for (length v)) ≡ false = le-ltb (free_number (tree_of b)) (pages_for (length v)) enough in
      write_granted path date v 0 buffer b (opens_first path date v buffer b (length-replicate {A = ℕ} 256 0) make_passed.0 making room)

  all_granted : (v : Bytes) → pages_for (length v) ≤ free_number (tree_of b) → granted tt ≡ run_answer (replacing path date false v) b
  unfolding replacing run_answer
  all_granted v enough =
      turn_granted (write path 0 v) [] (after (make_file path date) b) tt (sym (then_granted v enough)) ∙ turn_granted (make_file path date) (write path 0 v ∷ []) b y (sym e)

-- the make where the lines above 10 pass and a page is free
make_granted : (path date b : Bytes) → T (sound b) → Passes (make_lines path date (tree_of b)) → pages_for 0 ≤ free_number (tree_of b) → answer (make_file path date) b ≡ granted tt
unfolding MeaningOf.tree_answer MeaningOf.told RefusalOf.refusals RefusalOf.earlier RefusalOf.later RefusalOf.wanted settle
make_granted path date b h p k =
    (as_tree_lem (make_file path date) b h).answered
    ∙ settle_append refused (make_lines path date (tree_of b)) ((ltb (free_number (tree_of b)) (pages_for 0), refusal 10) ∷ []) (granted tt)
    ∙ settle_passed (make_lines path date (tree_of b)) refused _ p
    ∙ rw (le-ltb (free_number (tree_of b)) (pages_for 0) k) refl

-- ---- the first call alone can be refused

module _ (path date v b : Bytes) (room : HasRoom (length v) b) where
  made_all : (y : Unit {0}) → answer (make_file path date) b ≡ granted y → granted tt ≡ run_answer (replacing path date false v) b
  unfolding pages_for
  made_all y e =
      let h = (make_passed path date b y e).0 in
      all_granted path date b y e v (omega (arith, room h, one_free path date b y e, free_number_lem (sound_facts_lem h)))

  -- after a removal a page more is free
  removed_all : taken path date b ≡ true → (y : Unit {0}) → answer (remove_file path) b ≡ granted y → granted tt ≡ run_answer (replacing path date true v) b
  unfolding replacing MeaningOf.answer is_format
  removed_all old y e =
      let c : Call = remove_file path in
      let h = (sound_passed c b tt (granted_passed (lines c b) _ y e)).0 in
      let x = remade path date b h old y e in
      let more : pages_for (length v) ≤ free_number (tree_of (after c b)) = omega (arith, room h, free_number_lem (sound_facts_lem h), x.frees) in
      let makes = make_granted path date (after c b) (as_tree_lem c b h).is_sound x.making (omega (arith, more, first_pages (length v))) in
      all_granted path date (after c b) tt makes v more ∙ turn_granted c (make_file path date ∷ write path 0 v ∷ []) b y (sym e)

  module _ (b' : Bytes) where
    -- where the first call is granted all are, and where it is refused the image stays
    kept : (old : Bool) → taken path date b ≡ old → (q : Base) → refused (told q) ≡ run_answer (replacing path date old v) b → KeptBy (if old then remove_file path else make_file path date) b b' → b' ≡ b
    kept true old q p k = go (answer (remove_file path) b) refl
      where
        go : (a : Answer (Unit {0})) → answer (remove_file path) b ≡ a → b' ≡ b
        go (refused f) e = k f e
        go (granted y) e = absurd (not_granted (removed_all old y e ∙ sym p))
    kept false old q p k = go (answer (make_file path date) b) refl
      where
        go : (a : Answer (Unit {0})) → answer (make_file path date) b ≡ a → b' ≡ b
        go (refused f) e = k f e
        go (granted y) e = absurd (not_granted (made_all y e ∙ sym p))

  pub in_place : (r : Result ⊤ Base) (b' : Bytes) → RunsTo r (anew path date v b) b b' → KeptBy (first_of path date b) b b'
      → (change_answer r ≡ run_answer (anew path date v b) b) × (b' ≡ run_whole (anew path date v b) b)
  unfolding run_whole if_granted
  in_place (Ok _) b' p k = (p.0, p.1 ∙ ap (λ (a : Answer (Unit {0})). if_granted a b (run_after (anew path date v b) b)) p.0)
  in_place (Err q) b' p k = (p, kept b' (taken path date b) refl q p k ∙ ap (λ (a : Answer (Unit {0})). if_granted a b (run_after (anew path date v b) b)) p)

-- ---- the free pages, by the verdict

module _ (b : Bytes) where
  sound_told : T (sound b) → answer verdict b ≡ granted (record { pages = (tree_of b).pages; free = free_number (tree_of b) })
  unfolding MeaningOf.tree_answer MeaningOf.told RefusalOf.refusals RefusalOf.earlier RefusalOf.later RefusalOf.wanted settle
  sound_told h = (as_tree_lem verdict b h).answered ∙ rw (leb-suc-zero (free_number (tree_of b))) refl

  free_or : Answer Verdict → ℕ
  free_or (refused f) = 0
  free_or (granted v) = v.free

  verdict_sound : (v : Verdict) → granted v ≡ answer verdict b → T (sound b) × (v.free ≡ free_count b)
  unfolding free_or MeaningOf.answer is_format
  verdict_sound v said =
      let h = (sound_passed verdict b tt (granted_passed (lines verdict b) _ _ (sym said))).0 in
      (h, ap free_or (said ∙ sound_told h) ∙ free_number_lem (sound_facts_lem h))

  pub free_room : (v : Verdict) → granted v ≡ answer verdict b → (n wanted : ℕ) → wanted ≡ pages_for n
      → (leb wanted v.free ≡ true → HasRoom n b) × (leb wanted v.free ≡ false → T (sound b))
  free_room v said n wanted w =
      let x = verdict_sound v said in
      (λ t h. omega (arith, leb→le wanted v.free (subst T (sym t) tt), w, x.1), λ t. x.0)

  pub verdict_refused : (f : Refusal) → refused f ≡ answer verdict b → T (sound b) → ⊥
  verdict_refused f said h = not_granted (sym (said ∙ sound_told h))

-- one page
pub small_room : (n : ℕ) (b : Bytes) → n ≤ 255 → pages_for n ≤ max 1 (free_count b)
unfolding pages_for
small_room n b h = omega arith
