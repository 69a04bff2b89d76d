-- A text copied over sixteen zeros leaves the zeros behind it.
use lib.Seq.{length-take-le}
use Rattle.names.proofs.Names.{padded_over}
use Rattle.names.proofs.pad.Goals as goal

pub copy_from_slice-requires : goal.copy_from_slice-requires
copy_from_slice-requires c = length-take-le _ _ c.requires

pub returns : goal.returns
returns c = padded_over _ _ c.copy_from_slice.ensures.after
