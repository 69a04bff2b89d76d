-- What is joined is below 128 to the eighth, for what is behind the byte has at most seven bytes.
-- No answer names the test for 0, so an edit of it is refused for what it then means: `omega` finds what it says.
use Rattle.link_numbers.proofs.Turns.{joins_broken, joins_more}
use native.Mathlib.Omega.{arith}
use mathlib.Core.Path.{◌∙◌}
use Rattle.link_numbers.proofs.joined.Goals as goal

pub returns-in_err-higher : goal.returns-in_err-higher
returns-in_err-higher c = c.from_residual.ensures ∙ joins_broken _ c.in_err-higher.was

pub returns : goal.returns
returns c = joins_more _ c.in_ok-higher.was (λ z. omega arith)
