-- A page's link is its first byte.
use Rattle.fields.proofs.Plain.{rules}
use Rattle.fields.proofs.link.Goals as goal

pub returns : goal.returns
returns c = (rw (← c.first_byte.ensures) c.from.ensures, search rules)
