-- The code of what repair answers; a refusal of it is the verdict's, which fits its code.
use Rattle.codes.proofs.Fits.{coded}
use Rattle.c_requests.proofs.Fits.{repair_fits}
use Rattle.c_requests.proofs.repair.Goals as goal

pub change_code-requires : goal.change_code-requires
change_code-requires c = rw c.repair.ensures.result_value (repair_fits _)

pub returns : goal.returns
returns c = record { value = coded c.change_code.ensures c.repair.ensures.result_value; image_after = c.repair.ensures.image_after }
