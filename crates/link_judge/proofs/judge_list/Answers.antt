-- The judging of a list tells its first bad row (`judged_bad`).
use Rattle.link_judge.specs.Judged.{judged_told}
use Rattle.link_judge.proofs.Lists.{judged_bad}
use mathlib.Core.Path.{ap, ◌∙◌}
use Rattle.link_judge.proofs.judge_list.Goals as goal

pub returns : goal.returns
returns c = c.judgement.ensures ∙ ap judged_told c.judge_numbers.ensures ∙ judged_bad _
