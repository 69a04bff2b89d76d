-- `is_marked` is the pages one by one, and then the count.
use Rattle.agreement.specs.Marked.{is_marked}
use Rattle.claims.proofs.Claims.{told, untold}
use Rattle.agreement.proofs.is_marked.Goals as goal

pub returns-then-not-pages_agree : goal.returns-then-not-pages_agree
unfolding is_marked
returns-then-not-pages_agree c = rw (untold c.pages_agree.ensures c.if-not-pages_agree.true-raw)

pub returns : goal.returns
unfolding is_marked
returns c =
    rw (
      told c.pages_agree.ensures c.if-not-pages_agree.false-raw,
      ← c.free_count.ensures.0,
      ← c.requires.0.each,
      ← c.count_nobodies.ensures,
    )
