-- A step is the row that was read and the byte behind it, or a row of zeros.
use Rattle.link_rows.proofs.Rows.{step_from}
use mathlib.Core.Path.{◌∙◌}
use Rattle.link_rows.proofs.row_from.Goals as goal

pub returns : goal.returns
returns c = let n = c.no_row.ensures in let u = c.unwrap_or.ensures in u ∙ rw n (step_from c.args.s.now c.args.at _ c.row_at.ensures)
