-- A make that is granted. One that is refused has left the image as it was, and says by 8 that there is an old file: its two returns are found by the laws
-- of InTurn.antt that the function names.
use Rattle.link_anew.proofs.InTurn.{put_made}
use Rattle.link_anew.proofs.put_in_turn.Goals as goal

pub returns-in-Ok : goal.returns-in-Ok
returns-in-Ok c =
    let args = c.args in
    let made = c.in-Ok.ensures in
    let whole = put_made args.path.now args.date.now args.bytes.now args.image.now _ _ made.result_value made.image_after c.write.result c.write.ensures.result_value c.write.ensures.image_after in
    record { runs_to = whole.0; kept_by = whole.1 }
