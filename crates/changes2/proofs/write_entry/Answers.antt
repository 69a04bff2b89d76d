-- `write_entry` goes as the model's effect goes: the chain grows at its joint, the size is set, and the bytes are spread over the chain as it is then. Of the
-- pages gained they cover all but the last, so that no other has to be zeroed.
use Rattle.fields.proofs.Plain.{refl, arith, ap, length}
use Rattle.changes2.proofs.Writes2.{sizes_fit, held_inside, no_fewer, no_link, write_growing, write_able, write_done}
use Rattle.changes2.proofs.write_entry.Goals as goal

pub pages_for-held-requires : goal.pages_for-held-requires
pages_for-held-requires c = let w = c.requires in let f = sizes_fit w in (f.0, omega (arith, f.1, w.fits))

pub pages_for-wanted-requires : goal.pages_for-wanted-requires
pages_for-wanted-requires c = let w = c.requires in let f = sizes_fit w in (f.0, omega (arith, f.1, w.fits, c.max-new_size.ensures))

pub overflow_sub-wanted : goal.overflow_sub-wanted
overflow_sub-wanted c = no_fewer c.requires c.pages_for-held.ensures c.max-new_size.ensures c.pages_for-wanted.ensures

pub add_pages-requires : goal.add_pages-requires
add_pages-requires c =
    let w = c.requires in
    let held = c.pages_for-held.ensures in
    ((held_inside w held).0, (held_inside w held).1, no_link w, write_growing w held c.max-new_size.ensures c.pages_for-wanted.ensures refl)

pub size_bytes-sized-requires : goal.size_bytes-sized-requires
size_bytes-sized-requires c = omega (arith, c.requires.fits, c.max-new_size.ensures)

pub put-requires : goal.put-requires
put-requires c = omega (arith, ap length c.size_bytes-sized.ensures, c.requires.inside, c.add_pages.auto.image)

pub write_chain-requires : goal.write_chain-requires
write_chain-requires c =
    let w = c.requires in
    let f = sizes_fit w in
    let held = c.pages_for-held.ensures in
    let new = c.max-new_size.ensures in
    let wanted = c.pages_for-wanted.ensures in
    (f.2, write_able w held new wanted refl c.add_pages.ensures c.size_bytes-sized.ensures c.put.ensures, f.3)

pub returns : goal.returns
returns c =
    let w = c.requires in
    let held = c.pages_for-held.ensures in
    let new = c.max-new_size.ensures in
    let wanted = c.pages_for-wanted.ensures in
    let added = c.add_pages.ensures in
    write_done w held new wanted refl added c.size_bytes-sized.ensures c.put.ensures c.write_chain.ensures
