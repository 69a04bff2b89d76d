-- The file's bytes are loaded, and judged.
use lib.Seq.{length-take-le}
use Rattle.link_slices.proofs.Readings.{found_loaded, found_not, found_refused}
use mathlib.Core.Logic.{inr}
use native.Mathlib.Omega.{arith}
use mathlib.Core.Path.{sym}
use Rattle.link_slices.proofs.find_rows.Goals as goal

pub returns-in_err-size : goal.returns-in_err-size
returns-in_err-size c = found_refused _ _ _ _ _ _ c.from_residual.ensures.1 c.in_err-size.ensures

pub slice_bounds-judge_found-end : goal.slice_bounds-judge_found-end
slice_bounds-judge_found-end c = omega (arith, c.in_ok-size.ensures.0, c.load.auto.file)

pub slice_bounds-judge_found-end-2 : goal.slice_bounds-judge_found-end-2
slice_bounds-judge_found-end-2 c = sym (length-take-le _ _ (omega (arith, c.in_ok-size.ensures.0, c.load.auto.file)))

pub returns-in_err-count : goal.returns-in_err-count
returns-in_err-count c = found_not _ _ _ _ _ _ c.from_residual-in_err-count.ensures.1 c.in_ok-size.size (c.in_ok-size.ensures.1 (inr c.requires)) c.in_err-count.ensures

pub returns : goal.returns
returns c = found_loaded _ _ _ _ c.in_ok-size.size (c.in_ok-size.ensures.1 (inr c.requires)) (omega (arith, c.in_ok-size.ensures.0, c.load.auto.file)) c.in_ok-count.count c.in_ok-count.ensures
