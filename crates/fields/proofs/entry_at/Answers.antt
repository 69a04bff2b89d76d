-- The two tests are the model's: bit 7 says occupied, bit 0 directory, and the numbers are the bytes read.
use Rattle.fields.proofs.Plain.{rules, tests, arith, ◌≡◌, ℕ, ◌/◌, ◌%◌}
use Rattle.model.specs.Entry.{entry_at}
use Rattle.fields.proofs.entry_at.Goals as goal

low_bit : (x : ℕ) → x / 1 % 2 ≡ x % 2
low_bit x = omega arith

pub bounds-image-at : goal.bounds-image-at
unfolding entry_at
bounds-image-at c = search rules

pub returns-then-flags-ne1 : goal.returns-then-flags-ne1
unfolding entry_at
returns-then-flags-ne1 c = (search tests, search rules)

pub overflow_add-at : goal.overflow_add-at
unfolding entry_at
overflow_add-at c = search rules

pub bounds-image-at-2 : goal.bounds-image-at-2
unfolding entry_at
bounds-image-at-2 c = search rules

pub from-requires : goal.from-requires
unfolding entry_at
from-requires c = search rules

pub overflow_add-at-2 : goal.overflow_add-at-2
unfolding entry_at
overflow_add-at-2 c = search rules

pub bounds-image-at-3 : goal.bounds-image-at-3
unfolding entry_at
bounds-image-at-3 c = search rules

pub from-requires-2 : goal.from-requires-2
unfolding entry_at
from-requires-2 c = search rules

pub overflow_add-at-3 : goal.overflow_add-at-3
unfolding entry_at
overflow_add-at-3 c = search rules

pub bounds-image-at-4 : goal.bounds-image-at-4
unfolding entry_at
bounds-image-at-4 c = search rules

pub from-requires-3 : goal.from-requires-3
unfolding entry_at
from-requires-3 c = search rules

pub overflow_mul-size : goal.overflow_mul-size
unfolding entry_at
overflow_mul-size c = search rules

pub overflow_add-size : goal.overflow_add-size
unfolding entry_at
overflow_add-size c = search rules

pub returns-then-flags-eq1 : goal.returns-then-flags-eq1
unfolding entry_at
returns-then-flags-eq1 c =
    let start = c in
    (search (tests, low_bit, start.from.ensures, c.from-2.ensures, c.from-3.ensures), search rules)

pub returns-else-flags-eq1 : goal.returns-else-flags-eq1
unfolding entry_at
returns-else-flags-eq1 c =
    let start = c in
    (search (tests, low_bit, start.from.ensures, c.from-2.ensures, c.from-3.ensures), search rules)
