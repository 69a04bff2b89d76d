-- The root's path is its slash, by the law that the function names; any other directory's goes before one.
use Rattle.link_files.proofs.Paths.{below_put}
use native.Mathlib.Omega.{arith}
use mathlib.Core.Path.{◌∙◌}
use Rattle.link_files.proofs.join.Goals as goal

pub returns : goal.returns
returns c =
    let at-put-name2 = c in
    let at-put-bytes = at-put-name2 in
    let at-if1 = at-put-bytes in
    let start = at-if1 in
    let r = below_put start.args.directory.now start.args.name.now start.args.path.now _ _ start.requires.0 (λ e. omega (arith, e)) start.requires.1 at-put-bytes.put_bytes.ensures at-put-name2.put_name-2.ensures.path_after in
    record { value = (at-put-name2.put_name-2.ensures.value ∙ r.0, omega (arith, at-put-name2.put_name-2.ensures.value, start.requires.1)); path_after = r.1 }
