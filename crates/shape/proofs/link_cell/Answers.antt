-- `link_cell`: by where the links stand, as the geometry has it.
use Rattle.fields.proofs.Plain.{ap, arith}
use Rattle.volume.specs.Field.{byte}
use Rattle.shape.proofs.link_cell.Goals as goal

pub first_byte-requires : goal.first_byte-requires
first_byte-requires c = rw c.in-OnPage.is at c.requires

pub overflow_add-result : goal.overflow_add-result
overflow_add-result c = let h = rw c.in-Bytes.is at c.requires in omega arith

pub overflow_mul-result : goal.overflow_mul-result
overflow_mul-result c = let h = rw c.in-Pairs.is at c.requires in omega arith

pub overflow_add-result-in-Pairs : goal.overflow_add-result-in-Pairs
overflow_add-result-in-Pairs c = let h = rw c.in-Pairs.is at c.requires in omega arith

pub returns-in-OnPage : goal.returns-in-OnPage
returns-in-OnPage c = rw c.in-OnPage.is (ap byte c.first_byte.ensures)

pub returns-in-Bytes : goal.returns-in-Bytes
returns-in-Bytes c = rw c.in-Bytes.is

pub returns-in-Pairs : goal.returns-in-Pairs
returns-in-Pairs c = rw c.in-Pairs.is
