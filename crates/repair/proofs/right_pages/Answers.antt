-- A page that has its owner has the right bit, and so have the pages of bytes in which no bit is set.
use Rattle.fields.proofs.Plain.{rules, arith}
use Rattle.repair.proofs.Right.{right_none, right_owned, right_clear}
use Rattle.repair.proofs.right_pages.Goals as goal

pub returns-then-p-eq0 : goal.returns-then-p-eq0
returns-then-p-eq0 c = (right_none _ _ _, omega arith)

pub returns-then-marks-p-ne0 : goal.returns-then-marks-p-ne0
returns-then-marks-p-ne0 c = (search (rules, right_owned), omega arith)

pub returns-then-p-ne0 : goal.returns-then-p-ne0
returns-then-p-ne0 c = (right_none _ _ _, omega arith)

pub returns : goal.returns
returns c = (search (rules, right_clear), omega arith)
