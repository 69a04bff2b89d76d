-- The verdict: its lines are the image's length, its header and its soundness, and soundness is what the judge finds.
use mathlib.Core.Path.{◌≡◌, refl, sym, subst, ◌∙◌}
use mathlib.Core.Bool.{Bool, true, false}
use lib.ListN.{length}
use lib.Dec.{T}
use Rattle.volume.specs.Bytes.{Bytes}
use Rattle.std.specs.Prelude.{if◌then◌else◌}
use Rattle.model.specs.Layout.{page_count, valid_length, valid_header, free_count}
use Rattle.model.specs.Sound.{sound}
use Rattle.model.specs.Image.{tree_in}
use Rattle.model.specs.Call.{verdict, Verdict, refusal, Answer, refused, granted}
use Rattle.model.specs.Refusal.{settle}
use Rattle.model.specs.Meaning.{fault_told, is_format, answer}
use Rattle.model.specs.Judge.{Fault, Judged, fault, clean, judge, is_clean}
use Rattle.model.specs.MeaningOf
use Rattle.judge.specs.Answers.{judged_as, concluded}
use Rattle.laws.proofs.Judged.{judge_sound}
use Rattle.laws.proofs.Lists.{account}

abbrev counted : Bytes → Answer Verdict
counted b = granted (record { pages = page_count b; free = free_count b })

module _ (b : Bytes) where
  bad_length_lem : valid_length (length b) ≡ false → refused (refusal 1) ≡ answer verdict b
  unfolding MeaningOf.answer MeaningOf.lines settle
  bad_length_lem v = rw v

  bad_header_lem : valid_length (length b) ≡ true → valid_header b ≡ false → refused (refusal 2) ≡ answer verdict b
  unfolding MeaningOf.answer MeaningOf.lines settle is_format
  bad_header_lem v h = rw (v, h)

  unsound : (f : Fault) → judge b ≡ fault f → valid_length (length b) ≡ true → valid_header b ≡ true → sound b ≡ false → refused (fault_told f) ≡ answer verdict b
  unfolding MeaningOf.answer MeaningOf.lines settle is_format
  unsound f e v h s = rw (s, v, h, e)

  is_sound_lem : sound b ≡ true → counted b ≡ answer verdict b
  unfolding tree_in
  is_sound_lem s = sym (account b (subst T (sym s) tt)).told

-- what the judge says is what the verdict answers
verdict_said : (b : Bytes) → judged_as b ≡ answer verdict b
unfolding judged_as concluded is_clean
verdict_said b = by_length (valid_length (length b)) refl
  where
    judged : (j : Judged) → judge b ≡ j → is_clean j ≡ sound b → valid_length (length b) ≡ true → valid_header b ≡ true → concluded b j ≡ answer verdict b
    judged (fault f) e s v h = unsound b f e v h (sym s)
    judged (clean marks) e s v h = is_sound_lem b (sym s)

    by_header : (h : Bool) → valid_header b ≡ h → valid_length (length b) ≡ true → (if h then concluded b (judge b) else refused (refusal 2)) ≡ answer verdict b
    by_header false h v = bad_header_lem b v h
    by_header true h v = judged (judge b) refl (judge_sound b (subst T (sym v) tt) (subst T (sym h) tt)) v h

    by_length : (v : Bool) → valid_length (length b) ≡ v
        → (if v then (if valid_header b then concluded b (judge b) else refused (refusal 2)) else refused (refusal 1)) ≡ answer verdict b
    by_length false v = bad_length_lem b v
    by_length true v = by_header (valid_header b) refl v

pub judged_told : (b : Bytes) (j : Answer Verdict) → j ≡ judged_as b → j ≡ answer verdict b
judged_told b j e = e ∙ verdict_said b
