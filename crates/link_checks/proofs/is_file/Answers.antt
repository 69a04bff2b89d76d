-- The path of a legal name leads to what the directory holds under it.
use lib.Seq.{length-take-le}
use native.Mathlib.Omega.{arith}
use mathlib.Core.Path.{sym, ◌∙◌}
use Rattle.link_files.proofs.Depth.{path_short}
use Rattle.link_files.proofs.Loading.{passes_there, path_read}
use Rattle.link_checks.proofs.Found.{file_told}
use Rattle.link_checks.proofs.is_file.Goals as goal

pub join-len-requires : goal.join-len-requires
join-len-requires c =
    let start = c in
    let there = passes_there start.args.image.now start.args.directory.now start.requires.0 in
    let short = path_short start.args.image.now there.is_sound start.args.directory.now there.is_path there.row there.leads in
    (there.is_path, omega (arith, short, start.requires.2))

pub slice_bounds-find-end : goal.slice_bounds-find-end
slice_bounds-find-end c = let at_join = c in omega (arith, at_join.join-len.ensures.value.1, at_join.join-len.auto.path)

pub slice_bounds-find-end-2 : goal.slice_bounds-find-end-2
slice_bounds-find-end-2 c = let at_join = c in sym (length-take-le at_join.join-len.result _ (omega (arith, at_join.join-len.ensures.value.1, at_join.join-len.auto.path)))

pub returns : goal.returns
returns c =
    let args = c.args in
    let there = passes_there args.image.now args.directory.now c.requires.0 in
    let path = path_read c.join-len.result c.join-len.new.path _ _ c.join-len.ensures.value.0 c.join-len.ensures.path_after in
    c.is_found.ensures ∙ file_told args.image.now args.directory.now there args.name.now _ c.requires.1 path c.find.result c.find.ensures
