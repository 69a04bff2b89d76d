-- All bytes pass the test of one.
use Rattle.fields.proofs.Plain.{rules, ◌∙◌}
use Rattle.std.proofs.lemmas.Iterator.{YieldsList-from_slice}
use Rattle.std.proofs.lemmas.Iterator.Search.{all_from_yields_List}
use Rattle.fields.proofs.Lists.{all_listed}
use Rattle.model.specs.Date.{is_bcd}
use Rattle.dates.proofs.all_bcd.Goals as goal

pub returns : goal.returns
returns c =
    let date = c.args.date.now in
    all_from_yields_List is_bcd _ _ _ c.all.ensures.ran (YieldsList-from_slice date cc) (λ x b q k. search rules) ∙ all_listed is_bcd date
