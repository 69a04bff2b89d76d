-- No bytes are no path, other bytes than a slash begin none, a slash alone is the root, and a slash and legal texts lead somewhere.
use Rattle.fields.proofs.Plain.{rules, tests, ap, ◌∙◌, drop, eqb}
use Rattle.std.proofs.lemmas.Iterator.Splits.{YieldsList-from_slice_split}
use Rattle.std.proofs.lemmas.Iterator.Search.{all_from_yields_List}
use Rattle.volume.specs.Lists.{all}
use Rattle.model.specs.Name.{legal_text}
use Rattle.fields.proofs.Lists.{all_listed}
use Rattle.names.proofs.Steps.{part_to_end}
use Rattle.names.proofs.Split.{split_texts}
use Rattle.names.proofs.Paths.{no_path_lem, no_slash, slash_alone, slash_texts}
use Rattle.names.proofs.is_path.Goals as goal

pub returns-then-path-lt1 : goal.returns-then-path-lt1
returns-then-path-lt1 c = search no_path_lem

pub returns-then-path-ne47 : goal.returns-then-path-ne47
returns-then-path-ne47 c = search no_slash

pub returns-then-path-eq1 : goal.returns-then-path-eq1
returns-then-path-eq1 c = search slash_alone

pub returns : goal.returns
returns c =
    let behind = drop 1 c.args.path.now in
    let legal =
    all_from_yields_List legal_text _ _ _ c.all.ensures.ran
    (YieldsList-from_slice_split _ (λ x. eqb x 47) behind (c.split.ensures.rest ∙ part_to_end 1 c.args.path.now) c.split.ensures.done c.split.ensures.closure (λ x b q k. search (rules, tests)))
    (λ x b q k. search rules)
    ∙ all_listed legal_text _ ∙ ap (all legal_text) (split_texts behind) in
    search (slash_texts, legal)
