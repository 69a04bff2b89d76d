-- The rows are checked once the whole file was judged; then they are in range.
use Rattle.link_answers.proofs.Exits.{row_told_on}
use Rattle.link_checks.proofs.Checked.{steps_ranged, rows_checked, bad_checked}
use Rattle.link_checks.proofs.check_file.Goals as goal

pub returns-in_err-rows : goal.returns-in_err-rows
returns-in_err-rows c = row_told_on _ _ _ c.from_residual.ensures.1 (bad_checked c.args.file.now c.args.directory.now c.args.image.now _ c.in_err-rows.ensures)

pub check_rows-requires : goal.check_rows-requires
check_rows-requires c = (c.requires, steps_ranged _ _ c.in_ok-rows.ensures)

pub returns : goal.returns
returns c = rows_checked _ _ c.in_ok-rows.ensures c.args.directory.now c.args.image.now _ c.check_rows.ensures
