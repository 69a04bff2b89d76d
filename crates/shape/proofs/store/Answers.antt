-- `store` writes the one byte or the two that the cell names.
use Rattle.fields.proofs.Plain.{arith, length-set}
use Rattle.shape.proofs.store.Goals as goal

pub overflow_cast-image : goal.overflow_cast-image
overflow_cast-image c = let h = rw c.in-Byte.is at c.requires.1 in omega arith

pub bounds-image-at : goal.bounds-image-at
bounds-image-at c = let h = rw c.in-Byte.is at c.requires.0 in omega arith

pub bounds-image-at-in-Pair : goal.bounds-image-at-in-Pair
bounds-image-at-in-Pair c = let h = rw c.in-Pair.is at c.requires.0 in omega arith

pub overflow_cast-image-in-Pair-2 : goal.overflow_cast-image-in-Pair-2
overflow_cast-image-in-Pair-2 c = let h = rw c.in-Pair.is at c.requires.1 in omega arith

pub overflow_add-image : goal.overflow_add-image
overflow_add-image c = let h = rw c.in-Pair.is at c.requires.0 in omega arith

pub bounds-image-at-in-Pair-2 : goal.bounds-image-at-in-Pair-2
bounds-image-at-in-Pair-2 c = let h = rw c.in-Pair.is at c.requires.0 in simp length-set (omega arith)

pub returns-in-Byte : goal.returns-in-Byte
returns-in-Byte c = rw c.in-Byte.is

pub returns-in-Pair : goal.returns-in-Pair
returns-in-Pair c = rw c.in-Pair.is
