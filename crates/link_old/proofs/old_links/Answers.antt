-- The image is as it was; listing tells that the directory is there, and refuses as the lines do but for the date.
use mathlib.Core.Path.{sym, ap, ◌∙◌}
use borrow.Author.Tests.{not-true, not-false}
use Rattle.volume.specs.Bytes.{Bytes}
use Rattle.model.specs.Call.{list}
use Rattle.model.specs.Image.{tree_of}
use Rattle.model.specs.Meaning.{answer}
use Rattle.link_old.specs.Before.{old_file}
use Rattle.link_files.proofs.Loading.{list_arrives}
use Rattle.link_old.proofs.Before.{listed_there, there_passes, old_stops, old_undated, old_dated}
use Rattle.link_old.proofs.old_links.Goals as goal

pub returns-in-Err : goal.returns-in-Err
returns-in-Err c =
    let args = c.args in
    let kept = c.date_is_good-good.ensures.image_unchanged in
    record {
      result_value = old_stops args.image.now args.directory.now args.date.now c.date_is_good-good.result c.date_is_good-good.ensures.date_judged _ _ c.date_first.ensures
          (c.in-Err.ensures ∙ ap (answer (list args.directory.now 0)) kept);
      image_unchanged = kept;
    }

pub returns-then-not-good : goal.returns-then-not-good
returns-then-not-good c =
    let args = c.args in
    let kept = c.date_is_good-good.ensures.image_unchanged in
    let x = listed_there c.list.result c.in_default.not-Err in
    let there = list_arrives args.image.now args.directory.now x.0 (sym x.1 ∙ c.list.ensures ∙ ap (answer (list args.directory.now 0)) kept) in
    record { result_value = old_undated args.image.now args.directory.now args.date.now c.date_is_good-good.result c.date_is_good-good.ensures.date_judged there (not-true _ c.if-not-good.true-raw); image_unchanged = kept }

pub old_in-requires : goal.old_in-requires
old_in-requires c =
    let x = listed_there c.list.result c.in_default.not-Err in
    there_passes _ _ (list_arrives c.date_is_good-good.new.image c.args.directory.now x.0 (sym x.1 ∙ c.list.ensures))

pub returns : goal.returns
returns c =
    let args = c.args in
    let kept = c.date_is_good-good.ensures.image_unchanged in
    let x = listed_there c.list.result c.in_default.not-Err in
    let there = list_arrives args.image.now args.directory.now x.0 (sym x.1 ∙ c.list.ensures ∙ ap (answer (list args.directory.now 0)) kept) in
    record {
      result_value = c.old_in.ensures ∙ ap (λ (b : Bytes). old_file args.directory.now (tree_of b)) kept
          ∙ old_dated args.image.now args.directory.now args.date.now c.date_is_good-good.result c.date_is_good-good.ensures.date_judged there (not-false _ c.if-not-good.false-raw);
      image_unchanged = kept;
    }
