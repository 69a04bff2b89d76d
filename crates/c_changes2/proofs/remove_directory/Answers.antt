-- The code of what the call answers, which is what the model answers; a refusal of the model fits its code. The image is left to `search`: where the
-- contract names another call, the check says so at once, and does not compute two calls of version 2 to compare them.
use borrow.Author.Rules.{rules}
use Rattle.model.specs.Call.{remove_directory}
use Rattle.codes.proofs.Fits.{change_fits, coded}
use Rattle.codes2.proofs.Fits.{roomy2}
use Rattle.c_changes2.proofs.remove_directory.Goals as goal

pub change_code-requires : goal.change_code-requires
change_code-requires c = change_fits roomy2 (remove_directory _) _ c.remove_directory.ensures.result_value

pub returns : goal.returns
returns c = record { value = coded c.change_code.ensures c.remove_directory.ensures.result_value; image_after = search rules }
