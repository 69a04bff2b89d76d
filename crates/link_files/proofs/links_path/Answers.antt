-- The name is LINKS.
use Rattle.model.specs.Text.{text}
use native.Mathlib.Omega.{arith}
use Rattle.link_files.proofs.links_path.Goals as goal

pub join-requires : goal.join-requires
join-requires c = let start = c in (start.requires.0, omega (arith, start.requires.1))

pub returns : goal.returns
unfolding text
returns c =
    let whole = c.join.ensures in
    record { value = whole.value; path_after = whole.path_after }
