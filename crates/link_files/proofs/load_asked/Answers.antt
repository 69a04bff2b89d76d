-- The directory is there, so its path is short; listing refuses as the file's lines do.
use Rattle.link_files.proofs.Depth.{path_short}
use Rattle.link_files.proofs.Loading.{list_stops, list_arrives, loads_told_on}
use native.Mathlib.Omega.{arith}
use Rattle.link_files.proofs.load_asked.Goals as goal

pub returns-in_err-list : goal.returns-in_err-list
returns-in_err-list c = loads_told_on _ _ _ _ _ _ c.from_residual.ensures.1 (list_stops c.args.image.now c.args.directory.now _ c.in_err-list.ensures)

pub load_by-requires : goal.load_by-requires
load_by-requires c =
    let there = list_arrives c.args.image.now c.args.directory.now _ c.in_ok-list.ensures in
    let short = path_short c.args.image.now there.is_sound c.args.directory.now there.is_path there.row there.leads in
    (there.is_path, omega (arith, short))
