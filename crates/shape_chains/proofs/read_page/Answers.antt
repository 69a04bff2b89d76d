-- `read_page` copies from the page's content on its place, as far as it goes and bytes are wanted.
use Rattle.fields.proofs.Plain.{◌∙◌, ◌+◌, ◌-◌, arith}
use Rattle.volume.proofs.Reading.{none_read, some_read}
use Rattle.shape.specs.Geometry.{geometry_of}
use Rattle.shape_chains.proofs.read_page.Goals as goal

pub returns-then-room-place : goal.returns-then-room-place
returns-then-room-place c =
    let s = c.args in
    record { value = omega arith; buffer_after = none_read (geometry_of s.shape) s.image.now _ s.page.0 s.place s.done s.count c.if-room-place.true }

pub returns : goal.returns
returns c =
    let s = c in
    let from = c.first_byte.result + (s.args.shape.size - s.args.shape.room) + s.args.place in
    let read = some_read (geometry_of s.args.shape) s.args.image.now s.args.buffer.now s.args.page.0 s.args.place s.args.done s.args.count in
    let there = read s.requires.0 s.requires.1 (omega arith) from (from + c.min-more.result) (omega arith) (omega arith) in
    record { value = omega arith; buffer_after = c.copy_piece.ensures ∙ there }
