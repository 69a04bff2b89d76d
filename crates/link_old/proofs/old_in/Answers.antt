-- A path of at most 250 bytes and the name have room in a page, and any other in 4,352 bytes.
use native.Mathlib.Omega.{arith}
use Rattle.link_old.proofs.old_in.Goals as goal

pub old_file-requires : goal.old_file-requires
old_file-requires c = (c.requires, omega (arith, c.if-directory-le250.true))

pub returns-then-directory-le250 : goal.returns-then-directory-le250
returns-then-directory-le250 c = c.old_file.ensures

pub old_file-requires-2 : goal.old_file-requires-2
old_file-requires-2 c = (c.requires, omega arith)

pub returns : goal.returns
returns c = c.old_file-2.ensures
