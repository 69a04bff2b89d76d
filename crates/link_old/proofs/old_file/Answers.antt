-- The path of LINKS leads to what the directory holds under that name.
use lib.Seq.{length-take-le}
use native.Mathlib.Omega.{arith}
use mathlib.Core.Path.{sym}
use Rattle.family.specs.Family.{onward}
use Rattle.link_list.specs.Links.{links_name}
use Rattle.std.specs.Prelude.{Ok, Err}
use Rattle.link_files.proofs.Depth.{path_short}
use Rattle.link_files.proofs.Loading.{path_read}
use Rattle.link_old.proofs.Before.{directory_there, old_found_lem}
use Rattle.link_old.proofs.old_file.Goals as goal

pub links_path-len-requires : goal.links_path-len-requires
links_path-len-requires c =
    let start = c in
    let there = directory_there start.args.image.now start.args.directory.now start.requires.0 in
    let short = path_short start.args.image.now there.is_sound start.args.directory.now there.is_path there.row there.leads in
    (there.is_path, omega (arith, short, start.requires.1))

pub slice_bounds-find-end : goal.slice_bounds-find-end
slice_bounds-find-end c = let at_path = c in omega (arith, at_path.links_path-len.ensures.value.1, at_path.links_path-len.auto.path)

pub slice_bounds-find-end-2 : goal.slice_bounds-find-end-2
slice_bounds-find-end-2 c =
    let at_path = c in
    sym (length-take-le at_path.links_path-len.result _ (omega (arith, at_path.links_path-len.ensures.value.1, at_path.links_path-len.auto.path)))

pub returns-in_default : goal.returns-in_default
returns-in_default c =
    let args = c.args in
    let there = directory_there args.image.now args.directory.now c.requires.0 in
    let path = path_read c.links_path-len.result c.links_path-len.new.path _ (onward args.directory.now links_name) c.links_path-len.ensures.value.0 c.links_path-len.ensures.path_after in
    let says = old_found_lem args.image.now args.directory.now there _ path (Err c.in_default.field-0) c.in_default.ensures in
    says

pub returns-then-locked : goal.returns-then-locked
returns-then-locked c =
    let args = c.args in
    let there = directory_there args.image.now args.directory.now c.requires.0 in
    let path = path_read c.links_path-len.result c.links_path-len.new.path _ (onward args.directory.now links_name) c.links_path-len.ensures.value.0 c.links_path-len.ensures.path_after in
    let says = old_found_lem args.image.now args.directory.now there _ path (Ok c.in-Ok.found) c.in-Ok.ensures in
    rw (c.in-File.is, c.if-locked.true) at says

pub returns-else-locked : goal.returns-else-locked
returns-else-locked c =
    let args = c.args in
    let there = directory_there args.image.now args.directory.now c.requires.0 in
    let path = path_read c.links_path-len.result c.links_path-len.new.path _ (onward args.directory.now links_name) c.links_path-len.ensures.value.0 c.links_path-len.ensures.path_after in
    let says = old_found_lem args.image.now args.directory.now there _ path (Ok c.in-Ok.found) c.in-Ok.ensures in
    rw (c.in-File.is, c.if-locked.false) at says

pub returns-in-Directory : goal.returns-in-Directory
returns-in-Directory c =
    let args = c.args in
    let there = directory_there args.image.now args.directory.now c.requires.0 in
    let path = path_read c.links_path-len.result c.links_path-len.new.path _ (onward args.directory.now links_name) c.links_path-len.ensures.value.0 c.links_path-len.ensures.path_after in
    let says = old_found_lem args.image.now args.directory.now there _ path (Ok c.in-Ok.found) c.in-Ok.ensures in
    rw c.in-Directory.is at says
