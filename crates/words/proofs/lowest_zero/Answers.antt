-- `lowest_zero`: the zeros of the complement end at the word's lowest zero.
use Rattle.fields.proofs.Plain.{arith}
use native.Mathlib.Nat.{lt_of_le_of_lt}
use lib.Count.{trailing_le}
use Rattle.words.proofs.Words.{ends}
use Rattle.words.proofs.lowest_zero.Goals as goal

pub overflow_cast-result : goal.overflow_cast-result
overflow_cast-result c = record { fits = lt_of_le_of_lt (trailing_le 64 _) (omega arith) }

pub returns : goal.returns
returns c = ends 64 _ c.ranges.word.fits
