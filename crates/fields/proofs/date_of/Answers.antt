-- The eight bytes of a copied part are the part.
use Rattle.fields.proofs.Copied.{date_copied}
use Rattle.fields.proofs.date_of.Goals as goal

pub returns : goal.returns
returns c = search date_copied
