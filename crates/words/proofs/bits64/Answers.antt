-- `bits64`: two halves, the second one above the first.
use Rattle.words.proofs.Words.{holds_join}
use Rattle.words.proofs.bits64.Goals as goal

pub returns : goal.returns
returns c =
    let low = c.bits32.ensures in
    holds_join 4 low.1 low.0 c.bits32-2.ensures.0
