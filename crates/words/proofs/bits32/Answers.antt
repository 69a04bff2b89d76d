-- `bits32`: two halves, the second one above the first.
use Rattle.fields.proofs.Plain.{arith}
use Rattle.words.proofs.Words.{holds_join}
use Rattle.words.proofs.bits32.Goals as goal

pub returns : goal.returns
returns c =
    let low = c.bits16.ensures in
    let high = c.bits16-2.ensures in
    (holds_join 2 low.1 low.0 high.0, omega (arith, low.1, high.1))
