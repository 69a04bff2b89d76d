-- A text of allowed length is legal exactly if all its bytes are.
use Rattle.fields.proofs.Plain.{rules, tests, ◌∙◌}
use Rattle.std.proofs.lemmas.Iterator.{YieldsList-from_slice}
use Rattle.std.proofs.lemmas.Iterator.Search.{all_from_yields_List}
use Rattle.volume.specs.Lists.{all}
use Rattle.fields.proofs.Lists.{all_listed}
use Rattle.model.specs.Name.{legal_byte, legal_text}
use Rattle.names.proofs.legal_text.Goals as goal

pub returns-then-text-lt1 : goal.returns-then-text-lt1
unfolding legal_text all
returns-then-text-lt1 c = search tests

pub returns-then-text-gt16 : goal.returns-then-text-gt16
unfolding legal_text all
returns-then-text-gt16 c = search tests

pub returns : goal.returns
unfolding legal_text all
returns c =
    let text = c.args.text.now in
    let legal = all_from_yields_List legal_byte _ _ _ c.all.ensures.ran (YieldsList-from_slice text cc) (λ x b q k. search rules) ∙ all_listed legal_byte text in
    search (tests, legal)
