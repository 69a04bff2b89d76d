-- By the length, or by the path itself.
use lib.Dec.{T}
use native.Mathlib.Omega.{arith}
use mathlib.Core.Path.{sym, subst, ◌∙◌}
use mathlib.Core.Bool.{true≢false}
use Rattle.link_writes.proofs.may_be.Goals as goal

pub returns-then-directory-gt4335 : goal.returns-then-directory-gt4335
returns-then-directory-gt4335 c = (λ e. absurd (true≢false (sym e)), λ e p. c.if-directory-gt4335.true)

pub returns : goal.returns
returns c =
    let said = c.is_path.ensures in
    (λ e. (subst T (sym e ∙ said) tt, omega (arith, c.if-directory-gt4335.false)), λ e p. absurd (subst T (sym said ∙ e) p))
