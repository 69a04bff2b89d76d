-- `judge_formed` judges with marks that are a 0 for each page; what it finds is what the judge concludes.
use Rattle.judge2.proofs.Image.{pages_few, marks_none, marks_long, count_lies, found_fault, found_sound, refused_on}
use Rattle.judge2.proofs.judge_formed.Goals as goal

pub slice_bounds-marks-end : goal.slice_bounds-marks-end
slice_bounds-marks-end c = pages_few c.requires

pub slice_bounds-judge_all-end : goal.slice_bounds-judge_all-end
slice_bounds-judge_all-end c = marks_long c.requires

pub judge_all-requires : goal.judge_all-requires
judge_all-requires c = let k = c.requires in (k, marks_none k)

pub returns-in_err-judge_all : goal.returns-in_err-judge_all
returns-in_err-judge_all c = refused_on _ _ _ c.from_residual.ensures.1 (found_fault c.requires c.in_err-judge_all.ensures)

pub load-free-requires : goal.load-free-requires
load-free-requires c = count_lies c.requires

pub returns : goal.returns
returns c = let k = c.requires in (found_sound k _ c.in_ok-judge_all.ensures _ c.load-free.ensures.0, k)
