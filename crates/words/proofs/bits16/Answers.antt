-- `bits16`: a byte holds the bits of eight pages, and the next byte those of the eight above them.
use Rattle.fields.proofs.Plain.{rules, arith}
use Rattle.words.proofs.Words.{holds_bytes}
use Rattle.words.proofs.bits16.Goals as goal

pub returns : goal.returns
returns c = (search (rules, holds_bytes), omega arith)
