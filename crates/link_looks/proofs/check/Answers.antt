-- The file's bytes are loaded and checked, if they are all of it.
use lib.Seq.{length-take-le}
use Rattle.outcomes.proofs.Exits.{told_on}
use Rattle.link_files.proofs.Whole.{passes}
use Rattle.link_looks.proofs.Calls.{loaded_check, refused_check}
use mathlib.Core.Logic.{inl}
use native.Mathlib.Omega.{arith}
use mathlib.Core.Path.{sym, ◌∙◌}
use Rattle.link_looks.proofs.check.Goals as goal

pub returns-in_err-size : goal.returns-in_err-size
returns-in_err-size c = told_on _ _ _ _ c.from_residual.ensures.1 (refused_check c.args.directory.now c.args.image.now _ c.in_err-size.ensures)

pub slice_bounds-file-end : goal.slice_bounds-file-end
slice_bounds-file-end c = omega (arith, c.in_ok-size.ensures.0, c.load.auto.file)

pub slice_bounds-check_file-end : goal.slice_bounds-check_file-end
slice_bounds-check_file-end c = sym (length-take-le _ _ (omega (arith, c.in_ok-size.ensures.0, c.load.auto.file)))

pub check_file-requires : goal.check_file-requires
check_file-requires c = (passes c.args.directory.now c.args.image.now _ (c.in_ok-size.ensures.1 (inl (omega (arith, c.if-size-lt256.true))))).0

pub returns-then-size-lt256 : goal.returns-then-size-lt256
returns-then-size-lt256 c = c.check_file.ensures ∙ loaded_check c.args.directory.now c.args.image.now _ (c.in_ok-size.ensures.1 (inl (omega (arith, c.if-size-lt256.true))))
