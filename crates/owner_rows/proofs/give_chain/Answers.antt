-- `give_chain` gives one page a turn; what is left is the rest of the chain.
use Rattle.fields.proofs.Plain.{arith, rules}
use Rattle.owner_rows.proofs.Gives.{chain_asks, chain_inside, chain_turn, chain_given}
use Rattle.owner_rows.proofs.give_chain.Goals as goal

pub give_page-requires : goal.give_page-requires
give_page-requires c = search (arith, chain_asks)

pub link-page-requires : goal.link-page-requires
link-page-requires c = search (arith, chain_inside)

pub loop-preserved : goal.loop-preserved
loop-preserved c = (search rules, search (arith, chain_turn))

pub returns : goal.returns
returns c = chain_given _ _ _ _ _ c.requires.1 c.loop.invariant.1 (omega arith)
