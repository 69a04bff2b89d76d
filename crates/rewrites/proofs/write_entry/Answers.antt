-- `write_entry` goes as the model's effect goes: the chain grows at its joint, the size is set, and the bytes are spread over the chain as it is then. Of the
-- pages gained they cover all but the last, so that no other has to be zeroed.
use Rattle.rewrites.proofs.Writes.{no_fewer, write_adding, Resized, resize}
use Rattle.rewrites.proofs.write_entry.Goals as goal

pub overflow_sub-wanted : goal.overflow_sub-wanted
overflow_sub-wanted c = search no_fewer

pub add_pages-requires : goal.add_pages-requires
add_pages-requires c = search write_adding

pub write_chain-requires : goal.write_chain-requires
write_chain-requires c =
    let resized : (let a = c.args in Resized a.entry a.start.0 a.size a.position.0 a.bytes.now a.image.now c.put.new.image c.pages_for-wanted.result c.start_of-first.result.0) = let add = c in
    let held = add in
    resize held.requires held.page_count-n.ensures held.max-new_size.ensures held.pages_for-held.ensures
    add.pages_for-wanted.ensures add.add_pages.ensures c.size_bytes-sized.ensures c.put.ensures c.start_of-first.ensures.0 in
    resized.inside

pub returns : goal.returns
returns c =
    let resized : (let a = c.args in Resized a.entry a.start.0 a.size a.position.0 a.bytes.now a.image.now c.put.new.image c.pages_for-wanted.result c.start_of-first.result.0) = let add = c in
    let held = add in
    resize held.requires held.page_count-n.ensures held.max-new_size.ensures held.pages_for-held.ensures
    add.pages_for-wanted.ensures add.add_pages.ensures c.size_bytes-sized.ensures c.put.ensures c.start_of-first.ensures.0 in
    resized.comes c.write_chain.ensures
