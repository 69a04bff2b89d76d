-- A path of at most 250 bytes and the name have room.
use native.Mathlib.Omega.{arith}
use mathlib.Core.Path.{sym, ◌∙◌, subst}
use lib.Dec.{T}
use borrow.Author.Tests.{not-false}
use Rattle.link_files.proofs.load.Goals as goal

pub returns-then-directory-gt250 : goal.returns-then-directory-gt250
returns-then-directory-gt250 c = c.load_asked.ensures

pub returns-then-not-is_path : goal.returns-then-not-is_path
returns-then-not-is_path c = c.load_asked-then-not-is_path.ensures

pub load_by-requires : goal.load_by-requires
load_by-requires c =
    let at-if2 = c in
    (subst T (sym (not-false _ at-if2.if-not-is_path.false-raw) ∙ at-if2.is_path.ensures) tt, omega (arith, at-if2.if-directory-gt250.false))

pub returns : goal.returns
returns c = c.load_by.ensures
