-- `own_page` asks the definition's questions in its order; there are as many marks as pages.
use Rattle.owning2.proofs.Pages.{bit_lies, page_low, page_high, page_twice, page_free, page_owned}
use Rattle.owning2.proofs.own_page.Goals as goal

pub returns-then-p-shape : goal.returns-then-p-shape
returns-then-p-shape c = search page_low

pub returns-then-p-marks : goal.returns-then-p-marks
returns-then-p-marks c = search page_high

pub returns-then-marks-p-ne0 : goal.returns-then-marks-p-ne0
returns-then-marks-p-ne0 c = search page_twice

pub bit-requires : goal.bit-requires
bit-requires c = search bit_lies

pub returns-then-bit-ne1 : goal.returns-then-bit-ne1
returns-then-bit-ne1 c = search page_free

pub returns : goal.returns
returns c = search page_owned
