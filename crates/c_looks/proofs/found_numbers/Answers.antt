-- The numbers of a file and of a directory.
use Rattle.codes.specs.Outs.{kind_number, lock_number, find_out}
use Rattle.c_looks.proofs.found_numbers.Goals as goal

pub returns-in-File : goal.returns-in-File
unfolding find_out kind_number lock_number
returns-in-File c = rw (c.in-File.is, c.lock_number.ensures)

pub returns-in-Directory : goal.returns-in-Directory
unfolding find_out kind_number lock_number
returns-in-Directory c = rw c.in-Directory.is
