-- Of a bad row nothing is written.
use Rattle.model.specs.Call.{Refusal, refused}
use Rattle.link_judge.specs.Judged.{list_told}
use Rattle.link_answers.specs.Answers.{link_refusal}
use Rattle.link_answers.proofs.Exits.{row_same}
use Rattle.link_old.specs.Before.{old_settled}
use Rattle.link_anew.specs.Anew.{then_answer}
use Rattle.link_writes.proofs.Written.{row_refused}
use mathlib.Core.Path.{sym, ap, ◌∙◌}
use Rattle.link_writes.proofs.write_packed.Goals as goal

pub returns-in-Ok : goal.returns-in-Ok
returns-in-Ok c =
    λ rs k.
    let good = ap list_told (sym c.in-Ok.is) ∙ k.0 in
    c.write_good.ensures rs good (k.1 (sym good))

pub returns-in-Err : goal.returns-in-Err
returns-in-Err c =
    let args = c.args in λ rs k.
    let w = row_refused args.directory.now args.date.now args.image.now rs _ (ap list_told (sym c.in-Err.is) ∙ k.0) in
    let same = ap link_refusal c.from.ensures ∙ row_same c.in-Err.fault in
    (c.refuse.ensures.result_value ∙ ap (λ (f : Refusal). then_answer (old_settled args.directory.now args.date.now args.image.now) (refused f)) same ∙ w.0, c.refuse.ensures.image_unchanged ∙ w.1)
