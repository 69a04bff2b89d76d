-- The removal stands before the make and the write.
use Rattle.model.specs.Call.{remove_file}
use Rattle.link_anew.proofs.InTurn.{removal_stops, removed_made, done_keeps, after_keeps}
use Rattle.link_anew.proofs.replace.Goals as goal

pub returns-in_err-remove_file : goal.returns-in_err-remove_file
returns-in_err-remove_file c =
    let args = c.args in
    let removed = c.in_err-remove_file.ensures in
    record { runs_to = removal_stops args.path.now args.date.now args.bytes.now args.image.now _ _ _ c.from_residual.ensures.1 removed.result_value; kept_by = after_keeps (remove_file args.path.now) args.image.now _ removed.image_after }

pub returns : goal.returns
returns c =
    let args = c.args in
    let removed = c.in_ok-remove_file.ensures in
    record { runs_to = removed_made args.path.now args.date.now args.bytes.now args.image.now _ _ removed.result_value removed.image_after c.make_anew.result c.make_anew.ensures; kept_by = done_keeps (remove_file args.path.now) args.image.now _ tt removed.result_value }
