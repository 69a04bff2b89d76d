-- The code of what the call answers, which is what the model answers; a refusal of the model fits its code.
use Rattle.model.specs.Call.{write}
use Rattle.codes.proofs.Fits.{change_fits, coded}
use Rattle.codes2.proofs.Fits.{roomy2}
use Rattle.c_changes2.proofs.write.Goals as goal

pub change_code-requires : goal.change_code-requires
change_code-requires c = change_fits roomy2 (write _ _ _) _ c.write.ensures.result_value

pub returns : goal.returns
returns c = record { value = coded c.change_code.ensures c.write.ensures.result_value; image_after = c.write.ensures.image_after }
