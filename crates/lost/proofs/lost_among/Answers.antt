-- `lost_among` looks at one page a turn, and the lowest lost page from there on is the lowest of all.
use Rattle.fields.proofs.Plain.{rules, ⊎_elim}
use Rattle.lost.proofs.Lost.{bit_lies, page_lost, page_free, page_owned, none_lost}
use Rattle.lost.proofs.lost_among.Goals as goal

pub bit-requires : goal.bit-requires
bit-requires c = search (rules, bit_lies)

pub returns-then-bit-eq1 : goal.returns-then-bit-eq1
returns-then-bit-eq1 c = search page_lost

pub loop-p-preserved : goal.loop-p-preserved
loop-p-preserved c = ⊎_elim (λ w. search page_free) (λ w. search page_owned) c.if-marks-p-eq0.branch-raw

pub returns : goal.returns
returns c = search none_lost
