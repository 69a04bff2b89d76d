-- The figure is looked for once the whole file was judged.
use Rattle.link_answers.proofs.Exits.{row_told_on}
use Rattle.link_reads.proofs.InFile.{find_rows, find_bad}
use Rattle.link_reads.proofs.find_in_file.Goals as goal

pub returns-in_err-judge_file : goal.returns-in_err-judge_file
returns-in_err-judge_file c = row_told_on _ _ _ c.from_residual.ensures.1 (find_bad _ _ _ _ c.in_err-judge_file.ensures)

pub returns : goal.returns
returns c = find_rows _ _ _ _ c.in_ok-judge_file.ensures _ c.figure_in.ensures
