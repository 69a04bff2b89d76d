-- The flag of an occupied entry is bit 7.
use Rattle.fields.proofs.Plain.{sym}
use Rattle.cursor2.proofs.Seeking.{vacant_is}
use Rattle.occupied2.proofs.is_vacant.Goals as goal

pub returns : goal.returns
returns c = sym (vacant_is _ _)
