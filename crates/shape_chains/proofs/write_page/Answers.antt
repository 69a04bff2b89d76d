-- `write_page` puts the bytes from its place of the content on, as far as the page goes and bytes are left.
use Rattle.fields.proofs.Plain.{◌∙◌, ◌+◌, arith, drop}
use Rattle.volume.specs.Geometry as On
use Rattle.volume.proofs.Writing.{none_put, some_put}
use Rattle.shape.specs.Geometry.{geometry_of}
use Rattle.shape_chains.proofs.write_page.Goals as goal

pub returns-then-room-place : goal.returns-then-room-place
returns-then-room-place c =
    let s = c.args in
    record { value = omega arith; image_after = none_put (On.content (geometry_of s.shape) s.page.0 + s.place) s.shape.room s.place (drop s.done s.bytes.now) _ c.if-room-place.true }

pub returns : goal.returns
returns c =
    let s = c.args in
    let end = s.done + c.min.result in
    record { value = omega arith; image_after = c.fill_page.ensures ∙ some_put (geometry_of s.shape) s.page.0 s.place s.done end s.bytes.now _ (omega arith) }
