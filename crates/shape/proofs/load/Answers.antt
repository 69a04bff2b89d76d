-- `load` reads the one byte or the two that the cell names.
use Rattle.fields.proofs.Plain.{arith}
use Rattle.shape.proofs.load.Goals as goal

pub bounds-image-at : goal.bounds-image-at
bounds-image-at c = let h = rw c.in-Byte.is at c.requires in omega arith

pub bounds-image-at-in-Pair : goal.bounds-image-at-in-Pair
bounds-image-at-in-Pair c = let h = rw c.in-Pair.is at c.requires in omega arith

pub overflow_add-at : goal.overflow_add-at
overflow_add-at c = let h = rw c.in-Pair.is at c.requires in omega arith

pub bounds-image-at-in-Pair-2 : goal.bounds-image-at-in-Pair-2
bounds-image-at-in-Pair-2 c = let h = rw c.in-Pair.is at c.requires in omega arith

pub returns-in-Byte : goal.returns-in-Byte
returns-in-Byte c = rw c.in-Byte.is (c.from.ensures, omega arith)

pub returns-in-Pair : goal.returns-in-Pair
returns-in-Pair c = rw c.in-Pair.is (rw (c.from-in-Pair.ensures, c.from-in-Pair-2.ensures), omega arith)
