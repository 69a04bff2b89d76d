-- A make that is refused ends it, and the write answers for both.
use Rattle.link_anew.proofs.InTurn.{make_stops, made_written}
use Rattle.link_anew.proofs.make_anew.Goals as goal

pub returns-in_err-make_file : goal.returns-in_err-make_file
returns-in_err-make_file c =
    let args = c.args in
    make_stops args.path.now args.date.now args.bytes.now args.image.now _ _ _ c.from_residual.ensures.1 c.in_err-make_file.ensures.result_value

pub returns : goal.returns
returns c =
    let args = c.args in
    made_written args.path.now args.date.now args.bytes.now args.image.now _ _ c.in_ok-make_file.ensures.result_value c.in_ok-make_file.ensures.image_after c.write.result c.write.ensures.result_value c.write.ensures.image_after
