-- The code of what the call answers, which is what the model answers; a refusal of the model fits its code.
use Rattle.model.specs.Call.{set_lock}
use Rattle.codes.proofs.Fits.{change_fits, coded}
use Rattle.codes2.proofs.Fits.{roomy2}
use Rattle.c_changes2.proofs.lock.Goals as goal

pub change_code-requires : goal.change_code-requires
change_code-requires c = change_fits roomy2 (set_lock _ _) _ c.lock.ensures.result_value

pub returns : goal.returns
returns c = record { value = coded c.change_code.ensures c.lock.ensures.result_value; image_after = c.lock.ensures.image_after }
