-- The code of what the call answers, which is what the model answers; a refusal of the model fits its code.
use Rattle.model.specs.Call.{make_file}
use Rattle.codes.proofs.Fits.{change_fits, coded}
use Rattle.codes2.proofs.Fits.{roomy2}
use Rattle.c_changes2.proofs.make_file.Goals as goal

pub change_code-requires : goal.change_code-requires
change_code-requires c = change_fits roomy2 (make_file _ _) _ c.make_file.ensures.result_value

pub returns : goal.returns
returns c = record { value = coded c.change_code.ensures c.make_file.ensures.result_value; image_after = c.make_file.ensures.image_after }
