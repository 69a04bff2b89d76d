-- The sum is the model's.
use Rattle.model.specs.Date.{bcd}
use borrow.Author.Rules.{rules}
use Rattle.dates.proofs.bcd.Goals as goal

pub overflow_mul-result : goal.overflow_mul-result
unfolding bcd
overflow_mul-result c = search rules

pub overflow_add-result : goal.overflow_add-result
unfolding bcd
overflow_add-result c = search rules

pub returns : goal.returns
unfolding bcd
returns c = search rules
