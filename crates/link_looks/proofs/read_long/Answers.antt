-- The file's bytes are loaded and read.
use lib.Seq.{length-take-le}
use Rattle.outcomes.proofs.Exits.{told_on}
use Rattle.link_looks.proofs.Calls.{loaded_read, refused_read}
use mathlib.Core.Logic.{inr}
use native.Mathlib.Omega.{arith}
use mathlib.Core.Path.{sym, ◌∙◌}
use Rattle.link_looks.proofs.read_long.Goals as goal

pub returns-in_err-size : goal.returns-in_err-size
returns-in_err-size c =
    let whole = refused_read c.args.directory.now c.args.image.now _ c.in_err-size.ensures c.args.numbers.now in
    record { result_value = told_on _ _ _ _ c.from_residual.ensures.1 whole.0; numbers_after = whole.1 }

pub slice_bounds-file-end : goal.slice_bounds-file-end
slice_bounds-file-end c = omega (arith, c.in_ok-size.ensures.0, c.load.auto.file)

pub slice_bounds-read_file-end : goal.slice_bounds-read_file-end
slice_bounds-read_file-end c = sym (length-take-le _ _ (omega (arith, c.in_ok-size.ensures.0, c.load.auto.file)))

pub returns : goal.returns
returns c =
    let r = loaded_read c.args.directory.now c.args.image.now _ (c.in_ok-size.ensures.1 (inr (omega arith))) c.args.numbers.now in
    record { result_value = c.read_file.ensures.result_value ∙ r.0; numbers_after = c.read_file.ensures.numbers_after ∙ r.1 }
