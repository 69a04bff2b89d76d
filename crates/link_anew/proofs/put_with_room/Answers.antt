-- A sound image fits into the room for the copy.
use Rattle.link_anew.proofs.InTurn.{room_long}
use mathlib.Core.Path.{sym}
use borrow.Author.Rules.{rules}
use Rattle.link_anew.proofs.put_with_room.Goals as goal

pub slice_bounds-put_by_copy-end : goal.slice_bounds-put_by_copy-end
slice_bounds-put_by_copy-end c = room_long _ 65536 c.requires

pub put_by_copy-requires : goal.put_by_copy-requires
put_by_copy-requires c = sym (room_long _ 65536 c.requires)

pub returns : goal.returns
returns c = record { result_value = search rules; image_after = search rules }
