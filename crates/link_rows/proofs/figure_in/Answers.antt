-- The accession is in the rows that are left exactly if it is in the rows, since none before had it.
use Rattle.link_rows.proofs.Steps.{figure_turn, figure_end}
use mathlib.Core.Path.{sym, ◌∙◌}
use Rattle.link_rows.proofs.figure_in.Goals as goal

pub returns-then-is_accession : goal.returns-then-is_accession
returns-then-is_accession c =
    let turn = figure_turn c.args.file.now c.args.count c.args.value c.args.rows _ _ _ c.row_from-step.ensures c.loop-test.true in
    let is = sym c.is_accession.ensures ∙ c.if-is_accession.true in
    sym (rw is at turn) ∙ c.loop.invariant

pub loop-preserved : goal.loop-preserved
loop-preserved c =
    let turn = figure_turn c.args.file.now c.args.count c.args.value c.args.rows _ _ _ c.row_from-step.ensures c.loop-test.true in
    let is-not = sym c.is_accession.ensures ∙ c.if-is_accession.false in
    sym (rw is-not at turn) ∙ c.loop.invariant

pub returns : goal.returns
returns c = sym (figure_end c.args.file.now c.args.count c.args.value c.args.rows _ _ c.loop-test.false) ∙ c.loop.invariant
