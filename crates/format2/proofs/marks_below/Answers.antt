-- `marks_below` is one less than a power of two, which is at most 8.
use Rattle.fields.proofs.Plain.{arith}
use Rattle.format2.proofs.Formats2.{power_few}
use Rattle.format2.proofs.marks_below.Goals as goal

pub overflow_sub-result : goal.overflow_sub-result
overflow_sub-result c = omega (arith, (power_few c.args.page c.requires).0, (power_few c.args.page c.requires).1)

pub overflow_cast-result : goal.overflow_cast-result
overflow_cast-result c = omega (arith, (power_few c.args.page c.requires).0, (power_few c.args.page c.requires).1)

pub returns : goal.returns
returns c = omega (arith, (power_few c.args.page c.requires).0, (power_few c.args.page c.requires).1)
