-- `claim_chain` claims one page a turn; what is left to claim is the rest of the chain.
use Rattle.fields.proofs.Plain.{arith, ◌∙◌}
use Rattle.claims.proofs.Claims.{goes_of, page_claimed, chain_stops, chain_goes, chain_over}
use Rattle.claims.proofs.claim_chain.Goals as goal

pub returns-then-not-claim_page : goal.returns-then-not-claim_page
returns-then-not-claim_page c = search (arith, chain_stops)

pub link-page-requires : goal.link-page-requires
link-page-requires c =
    let claim = c in
    let loop = claim in
    let k = page_claimed _ _ _ _ (goes_of claim.claim_page.result claim.claim_page.ensures c.if-not-claim_page.false-raw) in
    omega (arith, k.here, loop.loop.invariant.0, loop.requires.each)

pub loop-preserved : goal.loop-preserved
loop-preserved c =
    let claim = c in
    ((page_claimed _ _ _ _ (goes_of claim.claim_page.result claim.claim_page.ensures c.if-not-claim_page.false-raw)).long ∙ claim.loop.invariant.0, search (arith, chain_goes))

pub returns : goal.returns
returns c = search (arith, chain_over)
