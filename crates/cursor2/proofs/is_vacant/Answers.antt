-- `is_vacant` asks bit 7 of the flags, which is all that the definition asks.
use Rattle.fields.proofs.Plain.{sym}
use Rattle.cursor2.proofs.Seeking.{vacant_is}
use Rattle.cursor2.proofs.is_vacant.Goals as goal

pub returns : goal.returns
returns c = sym (vacant_is _ _)
