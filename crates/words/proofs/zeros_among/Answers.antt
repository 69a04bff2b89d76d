-- `zeros_among`: a number of k bits has at most k ones, and what the remainder by the weight of bit k leaves has k bits.
use lib.Pow.{pow_pos}
use Rattle.words.proofs.Words.{all_zeros, low_most, low_zeros}
use Rattle.words.proofs.zeros_among.Goals as goal

pub returns-then-k-eq64 : goal.returns-then-k-eq64
returns-then-k-eq64 c = search all_zeros

pub nonzero_rem-word : goal.nonzero_rem-word
nonzero_rem-word c = rw c.weight.ensures (pow_pos _)

pub overflow_sub-result-2 : goal.overflow_sub-result-2
overflow_sub-result-2 c = search low_most

pub returns : goal.returns
returns c = search low_zeros
