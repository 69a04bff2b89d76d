-- The two tests are the definitions': bit 7 says occupied, bit 0 directory, and the numbers are those read.
use Rattle.fields.proofs.Plain.{rules, tests, arith, ◌≡◌, ℕ, ◌/◌, ◌%◌}
use Rattle.model2.specs.Entry.{entry_at}
use Rattle.fields2.proofs.entry_at.Goals as goal

low_bit : (x : ℕ) → x / 1 % 2 ≡ x % 2
low_bit x = omega arith

pub returns-then-flags-ne1 : goal.returns-then-flags-ne1
unfolding entry_at
returns-then-flags-ne1 c = (search tests, search rules)

pub returns-then-flags-eq1 : goal.returns-then-flags-eq1
unfolding entry_at
returns-then-flags-eq1 c = (search (tests, low_bit, c.start_of-start.ensures.0, c.size_of-size.ensures.0), search rules)

pub returns : goal.returns
unfolding entry_at
returns c = (search (tests, low_bit, c.start_of-start.ensures.0, c.size_of-size.ensures.0), search rules)
