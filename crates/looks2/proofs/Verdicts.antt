-- The verdict: its lines are those of the image, which the judge's finding settles; on a sound image the free number is the header's count.
use mathlib.Core.Path.{◌≡◌, refl, sym, ◌∙◌}
use lib.Dec.{T, leb-suc-zero}
use Rattle.std.specs.Prelude.{Result, IsErrAnd}
use Rattle.volume.specs.Bytes.{Bytes}
use Rattle.model.specs.View.{free_count}
use Rattle.model.specs.Image.{tree_in}
use Rattle.model.specs.Judge.{Judged, fault, clean, judge_view}
use Rattle.model.specs.Call.{verdict, Verdict, Answer, refused, granted}
use Rattle.model.specs.RefusalOf.{free_in, wanted, earlier, later, refusals, settle}
use Rattle.model.specs.MeaningOf.{told, is_format, sound, tree_of, image_lines, answer}
use Rattle.version_laws.proofs.Lines.{settle_both}
use Rattle.model2.specs.Layout.{header_lines}
use Rattle.model2.specs.Version2.{view2}
use Rattle.model2.specs.Calls.{v2}
use Rattle.laws2.proofs.Owed2.{owed2}
use Rattle.arrivals.proofs.Settled.{behind_image, if_sound}
use Rattle.outcomes.specs.declared.Counts.{Counts}
use Rattle.outcomes.proofs.Exits.{told_on}
use Rattle.refusals2.specs.declared.Refusal.{Refusal}
use Rattle.refusals2.specs.Told.{told as why}
use Rattle.judge2.specs.Answers.{concluded, judged_as}
use Rattle.answers2.specs.Answers.{verdict_answer}
use Rattle.places2.proofs.Judged.{judged_to, image_lines_lem}

module _ (b : Bytes) where
  abbrev counted : Answer Verdict
  counted = granted (record { pages = (view2 b).pages; free = free_count (view2 b) })

  -- a sound image's numbers are told with it
  said_counted : judged_as b ≡ judged_to refused counted (judged_as b)
  unfolding judged_as concluded
  said_counted =
      settle_both (λ (y z : Answer Verdict). y ≡ judged_to refused counted z) (header_lines b) refused (concluded (view2 b) (judge_view (view2 b)))
      refused (concluded (view2 b) (judge_view (view2 b))) (λ r. refl) (λ p. go (judge_view (view2 b)))
    where
      go : (j : Judged) → concluded (view2 b) j ≡ judged_to refused counted (concluded (view2 b) j)
      go (fault f) = refl
      go (clean marks) = refl

  -- behind the image's lines a verdict has none that refuses
  verdict_left : T (sound v2 b) → counted ≡ settle (refusals v2 verdict (tree_of v2 b)) refused (granted (told v2 verdict (tree_of v2 b)))
  unfolding refusals earlier later wanted told settle tree_in
  verdict_left h = rw (leb-suc-zero (free_in v2 (tree_of v2 b)), (owed2.counts b h).free)

  verdict_lines : settle (image_lines v2 b) refused counted ≡ answer v2 verdict b
  unfolding answer is_format
  verdict_lines = if_sound v2 b refused verdict_left ∙ sym (behind_image v2 b refused verdict refl (granted (told v2 verdict (tree_of v2 b))))

  pub judged_told : {x : Answer Verdict} → x ≡ judged_as b → x ≡ answer v2 verdict b
  judged_told e = e ∙ said_counted ∙ image_lines_lem b refused counted ∙ verdict_lines

  pub judged_refused : (r : Result Counts Refusal) (x : Refusal) → IsErrAnd r (λ y. y ≡ x) → refused (why x) ≡ judged_as b → verdict_answer r ≡ answer v2 verdict b
  judged_refused r x is e = told_on why _ r x is (judged_told e)
