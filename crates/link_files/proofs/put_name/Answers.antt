-- A slash, then the name.
use Rattle.link_files.proofs.Paths.{name_put}
use mathlib.Core.Path.{refl, ◌∙◌}
use lib.ListN.{length-set}
use Rattle.link_files.proofs.put_name.Goals as goal

pub shape_of-path : goal.shape_of-path
shape_of-path c = c.put_bytes.auto.bytes ∙ simp length-set

pub returns : goal.returns
returns c =
    let at-put-bytes = c in
    let start = at-put-bytes in
    record { value = refl; path_after = name_put start.args.at start.args.name.now start.args.path.now _ start.requires at-put-bytes.put_bytes.ensures }
