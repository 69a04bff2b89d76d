-- `release`: no link is byte 3 or a byte of the bitmap.
use Rattle.chains.proofs.Asked.{returned}
use Rattle.chains.proofs.release.Goals as goal

pub release-requires : goal.release-requires
release-requires c = returned c.requires
