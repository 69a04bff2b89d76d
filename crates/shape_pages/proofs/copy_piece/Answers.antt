-- `copy_piece` puts what stands in front of its array, which is the source.
use Rattle.shape_pages.proofs.Pieces.{front_put}
use Rattle.shape_pages.proofs.copy_piece.Goals as goal

pub returns : goal.returns
returns c =
    let was = c.args in
    front_put was.offset was.source.now _ _ was.part.now _ c.put_bytes.ensures c.put_bytes-2.ensures
