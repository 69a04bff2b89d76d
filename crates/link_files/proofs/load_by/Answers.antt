-- Reading the file refuses as the file's lines do, and what was read is the whole file.
use lib.Seq.{length-take-le}
use Rattle.family.specs.Family.{onward}
use Rattle.link_list.specs.Links.{links_name}
use Rattle.link_files.proofs.Loading.{path_read, read_loads}
use native.Mathlib.Omega.{arith}
use mathlib.Core.Path.{sym}
use Rattle.link_files.proofs.load_by.Goals as goal

pub links_path-len-requires : goal.links_path-len-requires
links_path-len-requires c = c.requires

pub slice_bounds-read-end : goal.slice_bounds-read-end
slice_bounds-read-end c = omega (arith, c.links_path-len.ensures.value.1, c.links_path-len.auto.path)

pub slice_bounds-read-end-2 : goal.slice_bounds-read-end-2
slice_bounds-read-end-2 c = sym (length-take-le c.links_path-len.result _ (omega (arith, c.links_path-len.ensures.value.1, c.links_path-len.auto.path)))

pub returns : goal.returns
returns c =
    let path = path_read c.links_path-len.result c.links_path-len.new.path _ (onward c.args.directory.now links_name) c.links_path-len.ensures.value.0 c.links_path-len.ensures.path_after in
    read_loads c.args.image.now c.args.directory.now c.requires.0 _ c.args.file.now path c.read.result c.read.ensures.result_value _ c.read.ensures.buffer_after
