-- The rows counted so far with those that are left are those of the file (`counted_at`), and each row makes what is left shorter.
use Rattle.std.specs.Prelude.{Some, None}
use Rattle.std.proofs.lemmas.Result.{err_from_is_err_and}
use Rattle.link_judge.specs.declared.RowFault.TheVariants.{Broken}
use Rattle.link_rows.specs.Told.{counted}
use Rattle.link_rows.proofs.Readings.{Reads, counted_first, counted_end, counted_broken, further, counted_low, counted_next}
use Rattle.link_list.specs.Judging.{read_list}
use native.Mathlib.Omega.{arith}
use mathlib.Core.Path.{◌≡◌}
use Rattle.link_rows.proofs.judge_file.Goals as goal

pub loop-at-init : goal.loop-at-init
loop-at-init c = (omega arith, omega arith, counted_first _)

pub returns-in_err-step : goal.returns-in_err-step
returns-in_err-step c =
    let none = c.in_err-step.ensures in
    let told = err_from_is_err_and c.from_residual.result c.from_residual.ensures.1 in
    let reads : (let v = c.args.file.now in let l = c.loop-at in Reads v l.i l.at l.last None (counted 0 (read_list v))) = record { few = omega arith; inside = omega arith; says = rw none.ok_part at c.row_at.ensures; comes = c.loop-at.invariant.2 } in
    let fault : c.in_err-step.field-0.0 ≡ Broken c.loop-at.at = cc (rw none.ok_part at none.value) in
    rw (told.1, told.2, fault) (counted_broken reads)

pub returns-then-not-follows : goal.returns-then-not-follows
returns-then-not-follows c =
    let reads : (let v = c.args.file.now in let l = c.loop-at in Reads v l.i l.at l.last (Some c.in_ok-step.step) (counted 0 (read_list v))) = record { few = omega arith; inside = omega arith; says = rw c.in_ok-step.ensures.ok_part at c.row_at.ensures; comes = c.loop-at.invariant.2 } in
    counted_low reads c.follows.ensures c.if-not-follows.true-raw

pub loop-at-smaller : goal.loop-at-smaller
loop-at-smaller c =
    let reads : (let v = c.args.file.now in let l = c.loop-at in Reads v l.i l.at l.last (Some c.in_ok-step.step) (counted 0 (read_list v))) = record { few = omega arith; inside = omega arith; says = rw c.in_ok-step.ensures.ok_part at c.row_at.ensures; comes = c.loop-at.invariant.2 } in
    omega (arith, further reads)

pub loop-at-preserved : goal.loop-at-preserved
loop-at-preserved c =
    let reads : (let v = c.args.file.now in let l = c.loop-at in Reads v l.i l.at l.last (Some c.in_ok-step.step) (counted 0 (read_list v))) = record { few = omega arith; inside = omega arith; says = rw c.in_ok-step.ensures.ok_part at c.row_at.ensures; comes = c.loop-at.invariant.2 } in
    let row = reads in
    let next = further row in
    (next.1, omega (arith, row.few), counted_next row c.follows.ensures c.if-not-follows.false-raw)

pub returns : goal.returns
returns c = search counted_end
