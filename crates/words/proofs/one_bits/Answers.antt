-- `one_bits`: a word of 64 bits has at most 64 ones.
use Rattle.fields.proofs.Plain.{refl, arith}
use lib.Count.{ones-le}
use Rattle.words.proofs.one_bits.Goals as goal

pub overflow_cast-result : goal.overflow_cast-result
overflow_cast-result c = omega (arith, ones-le 64 _ c.ranges.word.fits)

pub returns : goal.returns
returns c = (refl, ones-le 64 _ c.ranges.word.fits)
