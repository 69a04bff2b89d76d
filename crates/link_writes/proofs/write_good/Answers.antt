-- The calls in turn are the writing; a path that no directory has is refused before the rows.
use Rattle.outcomes.proofs.Exits.{told_on}
use Rattle.link_writes.proofs.Written.{path_refused}
use Rattle.link_writes.proofs.First.{first_written}
use mathlib.Core.Path.{◌∙◌}
use borrow.Author.Tests.{not-true, not-false}
use Rattle.link_writes.proofs.write_good.Goals as goal

pub returns-then-not-may_be : goal.returns-then-not-may_be
returns-then-not-may_be c =
    let args = c.args in λ rs good k.
    let w = path_refused args.directory.now args.date.now args.image.now rs (c.may_be.ensures.1 (not-true _ c.if-not-may_be.true-raw)) _ in
    (c.refuse.ensures.result_value ∙ w.0, c.refuse.ensures.image_unchanged ∙ w.1)

pub put_file-requires : goal.put_file-requires
put_file-requires c = c.may_be.ensures.0 (not-false _ c.if-not-may_be.false-raw)

pub returns-in_err-put_file : goal.returns-in_err-put_file
returns-in_err-put_file c =
    let args = c.args in λ rs good k.
    let w = first_written args.directory.now args.date.now args.bytes.now args.image.now (c.may_be.ensures.0 (not-false _ c.if-not-may_be.false-raw)).0 rs good k in
    (told_on _ _ _ _ c.from_residual.ensures.1 (c.in_err-put_file.ensures.result_value ∙ w.0), c.in_err-put_file.ensures.image_after ∙ w.1)

pub returns : goal.returns
returns c =
    let args = c.args in λ rs good k.
    let w = first_written args.directory.now args.date.now args.bytes.now args.image.now (c.may_be.ensures.0 (not-false _ c.if-not-may_be.false-raw)).0 rs good k in
    (c.in_ok-put_file.ensures.result_value ∙ w.0, c.in_ok-put_file.ensures.image_after ∙ w.1)
