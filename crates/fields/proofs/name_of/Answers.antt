-- The sixteen bytes of a copied part are the part.
use Rattle.fields.proofs.Copied.{name_copied}
use Rattle.fields.proofs.name_of.Goals as goal

pub returns : goal.returns
returns c = search name_copied
