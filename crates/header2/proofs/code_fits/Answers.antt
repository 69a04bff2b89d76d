-- Each test is one of the conditions on the code, and the first that fails decides; a page is no empty one, so the remainder can be asked for.
-- No answer names the test of the code's bound, so an edit of it is refused for what it then means: `omega` finds the bound.
use Rattle.fields.proofs.Plain.{arith, le-leb, and-true, told, untold}
use Rattle.volume.specs.Lists.{all}
use Rattle.model2.specs.Layout.{fit_code}
use Rattle.header2.proofs.Sizes.{size_bounds}
use Rattle.header2.proofs.code_fits.Goals as goal

pub returns-then-not-is_large_enough : goal.returns-then-not-is_large_enough
unfolding fit_code all
returns-then-not-is_large_enough c = rw (le-leb c.args.code 2 (omega arith), untold c.is_large_enough.ensures c.if-not-is_large_enough.true-raw)

pub returns-then-not-is_large_enough-2 : goal.returns-then-not-is_large_enough-2
unfolding fit_code all
returns-then-not-is_large_enough-2 c =
    rw (
      le-leb c.args.code 2 (omega arith),
      told c.is_large_enough.ensures c.if-not-is_large_enough.false-raw,
      untold c.is_large_enough-2.ensures c.if-not-is_large_enough-2.true-raw,
    )

pub overflow_mul-result : goal.overflow_mul-result
unfolding fit_code all
overflow_mul-result c = let bounds = size_bounds c.args.code (omega arith) in omega (arith, c.page_size.ensures, bounds.0, bounds.1)

pub nonzero_rem-result : goal.nonzero_rem-result
unfolding fit_code all
nonzero_rem-result c = let bounds = size_bounds c.args.code (omega arith) in omega (arith, c.page_size.ensures, bounds.0, bounds.1)

pub returns : goal.returns
unfolding fit_code all
returns c =
    rw (
      c.page_size.ensures,
      le-leb c.args.code 2 (omega arith),
      told c.is_large_enough.ensures c.if-not-is_large_enough.false-raw,
      told c.is_large_enough-2.ensures c.if-not-is_large_enough-2.false-raw,
      and-true _,
    )
