-- What is asked before the rows leaves the image as it was.
use Rattle.outcomes.proofs.Exits.{told_on}
use Rattle.model.specs.Call.{Answer, refused}
use Rattle.link_answers.specs.Answers.{link_refusal}
use Rattle.link_anew.specs.Anew.{then_answer}
use mathlib.Core.Path.{ap}
use mathlib.Core.Bool.{Bool}
use Rattle.link_writes.proofs.refuse.Goals as goal

pub returns-in_err-old_links : goal.returns-in_err-old_links
unfolding then_answer
returns-in_err-old_links c =
    let said = c.in_err-old_links.ensures in
    record {
      result_value = told_on _ _ _ _ c.from_residual.ensures.1 (ap (λ (a : Answer Bool). then_answer {B = Unit {0}} a (refused (link_refusal c.args.refusal))) said.result_value);
      image_unchanged = said.image_unchanged;
    }

pub returns : goal.returns
unfolding then_answer
returns c =
    let said = c.in_ok-old_links.ensures in
    record { result_value = ap (λ (a : Answer Bool). then_answer {B = Unit {0}} a (refused (link_refusal c.args.refusal))) said.result_value; image_unchanged = said.image_unchanged }
