-- The row is copied whole, or stays zeros, and the answer is the second judge's.
use mathlib.Core.Path.{◌∙◌}
use Rattle.c_requests.proofs.Rows.{says_sound, owners_told, nobody_told}
use Rattle.c_requests.proofs.audit.Goals as goal

pub returns-in-Some : goal.returns-in-Some
returns-in-Some c = record { value = search says_sound; owners_after = c.copy_owners.ensures ∙ owners_told _ c.audit-row.ensures c.in-Some.is }

pub returns-in_default : goal.returns-in_default
returns-in_default c = record { value = search says_sound; owners_after = nobody_told _ c.audit-row.ensures c.in_default.is }
