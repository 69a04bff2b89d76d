-- The buffer is a copy of the parent's page, and the entry is put where it stands there.
use mathlib.Core.Path.{refl}
use Rattle.store.proofs.Pages.{parent_put}
use Rattle.store.proofs.store_parent.Goals as goal

pub returns : goal.returns
returns c = record { result_value = refl; buffer_after = search parent_put }
