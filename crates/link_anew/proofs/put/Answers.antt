-- Either there is room, or it is done on a copy of a sound image.
use Rattle.link_files.proofs.Depth.{image_short}
use Rattle.link_anew.proofs.InPlace.{in_place}
use borrow.Author.Rules.{rules}
use Rattle.link_anew.proofs.put.Goals as goal

pub returns-then-has_room : goal.returns-then-has_room
returns-then-has_room c =
    let args = c.args in
    let whole = in_place args.path.now args.date.now args.bytes.now args.image.now (c.has_room.ensures.0 c.if-has_room.true) c.put_in_turn.result _ c.put_in_turn.ensures.runs_to c.put_in_turn.ensures.kept_by in
    record { result_value = whole.0; image_after = whole.1 }

pub put_with_room-requires : goal.put_with_room-requires
put_with_room-requires c = image_short _ (c.has_room.ensures.1 c.if-has_room.false)

pub returns : goal.returns
returns c = record { result_value = search rules; image_after = search rules }
