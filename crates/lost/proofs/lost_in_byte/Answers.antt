-- The pages of one byte of the bitmap, all at once if each has its owner, and else one by one.
use Rattle.fields.proofs.Plain.{rules}
use Rattle.lost.proofs.Owned.{eight_owned, byte_searched}
use Rattle.lost.proofs.lost_in_byte.Goals as goal

pub returns-then-eight_are_owned : goal.returns-then-eight_are_owned
returns-then-eight_are_owned c = search (rules, eight_owned)

pub returns : goal.returns
returns c = search (rules, byte_searched)
