-- The file's bytes are loaded and searched.
use lib.Seq.{length-take-le}
use Rattle.outcomes.proofs.Exits.{told_on}
use Rattle.link_looks.proofs.Calls.{loaded_find, refused_find}
use mathlib.Core.Logic.{inr}
use native.Mathlib.Omega.{arith}
use mathlib.Core.Path.{sym, ◌∙◌}
use Rattle.link_looks.proofs.find_long.Goals as goal

pub returns-in_err-size : goal.returns-in_err-size
returns-in_err-size c = told_on _ _ _ _ c.from_residual.ensures.1 (refused_find c.args.directory.now c.args.image.now _ c.in_err-size.ensures c.args.count c.args.value)

pub slice_bounds-file-end : goal.slice_bounds-file-end
slice_bounds-file-end c = omega (arith, c.in_ok-size.ensures.0, c.load.auto.file)

pub slice_bounds-find_in_file-end : goal.slice_bounds-find_in_file-end
slice_bounds-find_in_file-end c = sym (length-take-le _ _ (omega (arith, c.in_ok-size.ensures.0, c.load.auto.file)))

pub returns : goal.returns
returns c = c.find_in_file.ensures ∙ loaded_find c.args.directory.now c.args.image.now _ (c.in_ok-size.ensures.1 (inr (omega arith))) c.args.count c.args.value
