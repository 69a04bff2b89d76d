-- `read_chain`: each page below N lies in the image with its link.
use Rattle.fields.proofs.Plain.{arith}
use Rattle.chains.proofs.Asked.{inside}
use Rattle.chains.proofs.read_chain.Goals as goal

pub read_chain-requires : goal.read_chain-requires
read_chain-requires c = let s = c in (omega arith, omega arith, inside s.args.image.now s.args.k s.args.start.0 s.requires.0, s.requires.1, omega arith)
