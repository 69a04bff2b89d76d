-- `claim_lowest` marks the page that the search answers, and then counts it; the count is none of the bitmap's bytes.
use Rattle.store.proofs.Claims.{count_kept, claim_stored}
use Rattle.volume.proofs.Marks.{lowest_le}
use Rattle.model.specs.Layout.{version1}
use native.Mathlib.Omega.{arith}
use borrow.Author.Rules.{rules}
use Rattle.store.proofs.claim_lowest.Goals as goal

pub mark-requires : goal.mark-requires
mark-requires c = omega (arith, lowest_le version1 c.args.n c.args.header.now)

pub overflow_sub-header : goal.overflow_sub-header
overflow_sub-header c = omega (arith, count_kept _ _ _ c.mark.ensures)

pub returns : goal.returns
returns c = (search rules, search claim_stored)
