-- The rows that are left are checked as all rows are, since each before has its file.
use Rattle.link_checks.proofs.Checked.{checked_first, checked_end, next_ranged, checked_no, checked_yes}
use mathlib.Core.Path.{sym, ◌∙◌}
use borrow.Author.Tests.{not-true, not-false}
use Rattle.link_checks.proofs.check_rows.Goals as goal

pub loop-i-init : goal.loop-i-init
loop-i-init c =
    let first = checked_first c.args.file.now c.args.directory.now c.args.image.now c.args.rows in
    (first.0 ∙ c.requires.1, first.1)

pub has_file-requires : goal.has_file-requires
has_file-requires c =
    let a = c.args in
    (c.requires.0, (next_ranged a.file.now a.directory.now a.image.now a.rows c.loop-i.i c.loop-i.at _ c.row_from-step.ensures c.loop-i-test.true c.loop-i.invariant.0).0)

pub returns-then-not-has_file : goal.returns-then-not-has_file
returns-then-not-has_file c =
    let a = c.args in
    sym (checked_no a.file.now a.directory.now a.image.now a.rows c.loop-i.i c.loop-i.at _ c.row_from-step.ensures c.loop-i-test.true _ c.has_file.ensures (not-true _ c.if-not-has_file.true-raw)) ∙ c.loop-i.invariant.1

pub loop-i-preserved : goal.loop-i-preserved
loop-i-preserved c =
    let a = c.args in
    let ranged = next_ranged a.file.now a.directory.now a.image.now a.rows c.loop-i.i c.loop-i.at _ c.row_from-step.ensures c.loop-i-test.true c.loop-i.invariant.0 in
    let turn = checked_yes a.file.now a.directory.now a.image.now a.rows c.loop-i.i c.loop-i.at _ c.row_from-step.ensures c.loop-i-test.true _ c.has_file.ensures (not-false _ c.if-not-has_file.false-raw) in
    (ranged.1, sym turn ∙ c.loop-i.invariant.1)

pub returns : goal.returns
returns c =
    let a = c.args in
    sym (checked_end a.file.now a.directory.now a.image.now a.rows c.loop-i.i c.loop-i.at c.loop-i-test.false) ∙ c.loop-i.invariant.1
