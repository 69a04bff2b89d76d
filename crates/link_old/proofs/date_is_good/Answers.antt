-- The make is refused, so the image stays, and on a sound image its refusal says the date.
use mathlib.Core.Path.{◌∙◌}
use Rattle.link_old.proofs.Before.{dated_bad, dated_good, root_never, root_kept}
use Rattle.link_old.proofs.date_is_good.Goals as goal
use Rattle.link_old.proofs.date_is_good.Goals.{in-BadDate, in_default}

pub returns-in-Ok : goal.returns-in-Ok
returns-in-Ok c =
    let never = root_never c.args.image.now c.args.date.now c.in-Ok.ensures.result_value in
    record { date_judged = absurd never; image_unchanged = absurd never }

pub returns-after-matches : goal.returns-after-matches
returns-after-matches c =
    let b = c.args.image.now in
    let date = c.args.date.now in
    let said = c.in-Err.ensures.result_value in
    record {
      date_judged = elim c.match-matches.branch [
        | in-BadDate w ↦ dated_bad b date c.in-Err.r said c.match-matches.matches w.in-BadDate.is w.matches-is
        | in_default w ↦ dated_good b date c.in-Err.r said c.match-matches.matches w.in_default.not-BadDate w.matches-is
      ];
      image_unchanged = c.in-Err.ensures.image_after ∙ root_kept b date _ said;
    }
