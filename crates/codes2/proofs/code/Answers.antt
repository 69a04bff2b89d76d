-- A place that fits has 48 bits, so number and place have no bit in common.
use Rattle.fields.proofs.Plain.{arith}
use Rattle.codes.proofs.Codes.{place_low}
use Rattle.codes2.proofs.code.Goals as goal

pub overflow_mul-result : goal.overflow_mul-result
overflow_mul-result c = omega (arith, c.place.ensures, place_low c.requires)

pub overflow_add-result : goal.overflow_add-result
overflow_add-result c = omega (arith, c.place.ensures, place_low c.requires)
