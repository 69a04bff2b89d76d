-- The path is that of LINKS.
use lib.Seq.{length-take-le}
use Rattle.volume.specs.Bytes.{Bytes}
use Rattle.family.specs.Family.{onward}
use Rattle.link_list.specs.Links.{links_name}
use Rattle.link_anew.specs.Anew.{anew, run_answer, run_whole}
use Rattle.link_files.proofs.Loading.{path_read}
use native.Mathlib.Omega.{arith}
use mathlib.Core.Path.{sym, ap, ◌∙◌}
use Rattle.link_writes.proofs.put_by.Goals as goal

pub links_path-len-requires : goal.links_path-len-requires
links_path-len-requires c = c.requires

pub slice_bounds-put-end : goal.slice_bounds-put-end
slice_bounds-put-end c =
    let at_path = c in
    omega (arith, at_path.links_path-len.ensures.value.1, at_path.links_path-len.auto.path)

pub slice_bounds-put-end-2 : goal.slice_bounds-put-end-2
slice_bounds-put-end-2 c =
    let at_path = c in
    sym (length-take-le at_path.links_path-len.result _ (omega (arith, at_path.links_path-len.ensures.value.1, at_path.links_path-len.auto.path)))

pub returns : goal.returns
returns c =
    let at_path = c in
    let args = c.args in
    let path = path_read at_path.links_path-len.result at_path.links_path-len.new.path _ (onward args.directory.now links_name) at_path.links_path-len.ensures.value.0 at_path.links_path-len.ensures.path_after in
    record { result_value = c.put.ensures.result_value ∙ ap (λ (p : Bytes). run_answer (anew p args.date.now args.bytes.now args.image.now) args.image.now) path; image_after = c.put.ensures.image_after ∙ ap (λ (p : Bytes). run_whole (anew p args.date.now args.bytes.now args.image.now) args.image.now) path }
