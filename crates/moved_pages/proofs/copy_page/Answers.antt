-- `copy_page` puts the page over the whole stretch.
use Rattle.moved_pages.proofs.Laid.{copied}
use mathlib.Core.Path.{refl}
use native.Mathlib.Omega.{arith}
use Rattle.moved_pages.proofs.copy_page.Goals as goal

pub returns : goal.returns
returns c =
    let copy-in = c in
    let first_byte = copy-in in
    let start = first_byte in
    copied _ _ _ _ _ _ first_byte.first_byte-first.ensures refl (omega arith) start.requires.1 copy-in.copy_in.ensures
