-- A page that no file owns gets one number, and any other none.
use Rattle.claims.proofs.Claims.{told, untold}
use Rattle.proposals.proofs.Numbers.{other_none, other_here, other_one}
use native.Mathlib.Omega.{arith}
use Rattle.tidy.proofs.number_other.Goals as goal

pub returns-then-not-is_other : goal.returns-then-not-is_other
returns-then-not-is_other c =
    let whole = other_none _ _ _ _ (untold c.is_other.ensures c.if-not-is_other.true-raw) in
    record { value = whole.0; row_after = whole.1 }

pub overflow_cast-row : goal.overflow_cast-row
overflow_cast-row c =
    let is-other = c in
    let start = is-other in
    omega (arith, start.requires.4, other_one start.args.image.now start.args.page.0 (told is-other.is_other.ensures c.if-not-is_other.false-raw))

pub returns : goal.returns
returns c =
    let whole = other_here _ _ _ _ (told c.is_other.ensures c.if-not-is_other.false-raw) in
    record { value = whole.0; row_after = whole.1 }
