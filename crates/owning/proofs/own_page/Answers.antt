-- `own_page` asks the model's questions in the model's order; there are as many marks as pages.
use Rattle.fields.proofs.Plain.{tests}
use Rattle.model.specs.Judge.{judge_page}
use Rattle.owning.proofs.own_page.Goals as goal

pub returns-then-p-lt1 : goal.returns-then-p-lt1
unfolding judge_page
returns-then-p-lt1 c = search tests

pub returns-then-p-marks : goal.returns-then-p-marks
unfolding judge_page
returns-then-p-marks c = search (tests, ← c.requires.each)

pub returns-then-marks-p-ne0 : goal.returns-then-marks-p-ne0
unfolding judge_page
returns-then-marks-p-ne0 c = search (tests, ← c.requires.each)

pub returns-then-bit-ne1 : goal.returns-then-bit-ne1
unfolding judge_page
returns-then-bit-ne1 c = search (tests, ← c.requires.each, ← c.bit.ensures)

pub returns : goal.returns
unfolding judge_page
returns c = search (tests, ← c.requires.each, ← c.bit.ensures)
