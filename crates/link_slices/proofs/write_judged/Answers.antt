-- What a list's judging comes to is its first bad row, and so the writing by that and the bytes is the list's.
use Rattle.link_judge.specs.Judged.{judged_told}
use Rattle.link_judge.proofs.Lists.{judged_bad}
use mathlib.Core.Path.{ap, ◌∙◌}
use Rattle.link_slices.proofs.write_judged.Goals as goal

pub returns : goal.returns
returns c =
    let at-write-packed = c in
    λ rs judged stands. at-write-packed.write_packed.ensures rs (at-write-packed.judgement.ensures ∙ ap judged_told judged ∙ judged_bad rs, stands)
