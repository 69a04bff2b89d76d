-- `write_chain`: no byte of content is a link.
use Rattle.fields.proofs.Plain.{arith}
use Rattle.chains.proofs.Asked.{writable}
use Rattle.chains.proofs.write_chain.Goals as goal

pub write_chain-requires : goal.write_chain-requires
write_chain-requires c = (omega arith, writable _ _ _ c.requires, omega arith)
