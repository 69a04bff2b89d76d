-- The code of what the call answers, which is what the model answers; a refusal of the model fits its code.
use Rattle.model.specs.Call.{format_as}
use Rattle.codes.proofs.Fits.{change_fits, coded}
use Rattle.codes2.proofs.Fits.{roomy2}
use Rattle.c_changes2.proofs.format.Goals as goal

pub change_code-requires : goal.change_code-requires
change_code-requires c = change_fits roomy2 (format_as _) _ c.format.ensures.0

pub returns : goal.returns
returns c = record { value = coded c.change_code.ensures c.format.ensures.0; image_after = c.format.ensures.1 }
