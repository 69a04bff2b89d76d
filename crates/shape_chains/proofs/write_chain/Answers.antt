-- `write_chain` follows the links to the page of the position, puts on it what it takes from there on, and then on each page what it takes of the bytes. What is
-- left of them is spread along the pages left: of every writing at the beginning of the loop a turn makes one that is a page further.
use Rattle.fields.proofs.Plain.{◌+◌, ◌-◌, ◌/◌, ◌%◌, arith}
use native.Mathlib.Nat.{mod-lt}
use Rattle.volume.proofs.Writing.{Writing, writing_here, writing_turn, writing_last}
use Rattle.shape.specs.Geometry.{geometry_of}
use Rattle.shape_chains.proofs.Passing.{inside_front, writing_none, writing_page, writing_end, writing_ahead}
use Rattle.shape_chains.proofs.write_chain.Goals as goal

pub nonzero_div-passed : goal.nonzero_div-passed
nonzero_div-passed c = omega (arith, c.requires.0)

pub returns-then-k-passed : goal.returns-then-k-passed
returns-then-k-passed c =
    let s = c in
    writing_none (geometry_of s.args.shape) s.args.image.now s.args.bytes.now s.args.k s.args.start.0 s.args.position.0 s.requires.1 c.if-k-passed.true

pub page_at-first-requires : goal.page_at-first-requires
page_at-first-requires c =
    let s = c in
    inside_front (geometry_of s.args.shape) s.args.image.now (s.args.position.0 / s.args.shape.room) s.args.k s.args.start.0 c.if-k-passed.false s.requires.1.inside

pub nonzero_rem-position : goal.nonzero_rem-position
nonzero_rem-position c = omega (arith, c.requires.0)

pub write_page-done-requires : goal.write_page-done-requires
write_page-done-requires c =
    let arrived : (let s = c.args in Writing (geometry_of s.shape) s.image.now s.bytes.now s.k s.start.0 s.position.0 (s.position.0 / s.shape.room) c.page_at-first.result.0 (s.position.0 % s.shape.room) 0 s.image.now) = let s = c in
    writing_page (geometry_of s.args.shape) s.args.image.now s.args.bytes.now s.args.k s.args.start.0 s.args.position.0 s.requires.1 c.if-k-passed.false c.page_at-first.ensures in
    let s = c in ((writing_here arrived c.if-k-passed.false).0, s.requires.1.room, omega arith, s.requires.2)

pub link-page-requires : goal.link-page-requires
link-page-requires c =
    let arrived : (let s = c.args in Writing (geometry_of s.shape) s.image.now s.bytes.now s.k s.start.0 s.position.0 (s.position.0 / s.shape.room) c.page_at-first.result.0 (s.position.0 % s.shape.room) 0 s.image.now) = let s = c in
    writing_page (geometry_of s.args.shape) s.args.image.now s.args.bytes.now s.args.k s.args.start.0 s.args.position.0 s.requires.1 c.if-k-passed.false c.page_at-first.ensures in
    omega (arith, (writing_here arrived c.if-k-passed.false).1, c.write_page-done.auto.image)

pub loop-init : goal.loop-init
loop-init c = λ b start from r. r

pub overflow_sub-bytes : goal.overflow_sub-bytes
overflow_sub-bytes c =
    let arrived : (let s = c.args in Writing (geometry_of s.shape) s.image.now s.bytes.now s.k s.start.0 s.position.0 (s.position.0 / s.shape.room) c.page_at-first.result.0 (s.position.0 % s.shape.room) 0 s.image.now) = let s = c in
    writing_page (geometry_of s.args.shape) s.args.image.now s.args.bytes.now s.args.k s.args.start.0 s.args.position.0 s.requires.1 c.if-k-passed.false c.page_at-first.ensures in
    let begun : (let s = c.args in Writing (geometry_of s.shape) s.image.now s.bytes.now s.k s.start.0 s.position.0 (s.position.0 / s.shape.room + 1) c.link-page.result.0 0 c.write_page-done.result c.write_page-done.new.image) = let s = c in
    let put = c.write_page-done in
    writing_turn arrived c.if-k-passed.false put.ensures.image_after put.ensures.value (omega (arith, mod-lt s.args.position.0 s.requires.0)) c.link-page.ensures in
    let going : (let s = c.args in Writing (geometry_of s.shape) s.image.now s.bytes.now s.k s.start.0 s.position.0 c.loop.counter c.loop.page.0 0 c.loop.done c.loop.image) = let s = c.args in c.loop.invariant s.image.now s.start.0 s.position.0 begun in
    going.fits

pub write_page-requires : goal.write_page-requires
write_page-requires c =
    let arrived : (let s = c.args in Writing (geometry_of s.shape) s.image.now s.bytes.now s.k s.start.0 s.position.0 (s.position.0 / s.shape.room) c.page_at-first.result.0 (s.position.0 % s.shape.room) 0 s.image.now) = let s = c in
    writing_page (geometry_of s.args.shape) s.args.image.now s.args.bytes.now s.args.k s.args.start.0 s.args.position.0 s.requires.1 c.if-k-passed.false c.page_at-first.ensures in
    let begun : (let s = c.args in Writing (geometry_of s.shape) s.image.now s.bytes.now s.k s.start.0 s.position.0 (s.position.0 / s.shape.room + 1) c.link-page.result.0 0 c.write_page-done.result c.write_page-done.new.image) = let s = c in
    let put = c.write_page-done in
    writing_turn arrived c.if-k-passed.false put.ensures.image_after put.ensures.value (omega (arith, mod-lt s.args.position.0 s.requires.0)) c.link-page.ensures in
    let going : (let s = c.args in Writing (geometry_of s.shape) s.image.now s.bytes.now s.k s.start.0 s.position.0 c.loop.counter c.loop.page.0 0 c.loop.done c.loop.image) = let s = c.args in c.loop.invariant s.image.now s.start.0 s.position.0 begun in
    let r = going in
    let s = c in
    ((writing_here r c.loop-test.true).0, r.able.room, r.fits, s.requires.2)

pub shape_of-image-then-bytes-done : goal.shape_of-image-then-bytes-done
shape_of-image-then-bytes-done c =
    let arrived : (let s = c.args in Writing (geometry_of s.shape) s.image.now s.bytes.now s.k s.start.0 s.position.0 (s.position.0 / s.shape.room) c.page_at-first.result.0 (s.position.0 % s.shape.room) 0 s.image.now) = let s = c in
    writing_page (geometry_of s.args.shape) s.args.image.now s.args.bytes.now s.args.k s.args.start.0 s.args.position.0 s.requires.1 c.if-k-passed.false c.page_at-first.ensures in
    let begun : (let s = c.args in Writing (geometry_of s.shape) s.image.now s.bytes.now s.k s.start.0 s.position.0 (s.position.0 / s.shape.room + 1) c.link-page.result.0 0 c.write_page-done.result c.write_page-done.new.image) = let s = c in
    let put = c.write_page-done in
    writing_turn arrived c.if-k-passed.false put.ensures.image_after put.ensures.value (omega (arith, mod-lt s.args.position.0 s.requires.0)) c.link-page.ensures in
    let going : (let s = c.args in Writing (geometry_of s.shape) s.image.now s.bytes.now s.k s.start.0 s.position.0 c.loop.counter c.loop.page.0 0 c.loop.done c.loop.image) = let s = c.args in c.loop.invariant s.image.now s.start.0 s.position.0 begun in
    omega (arith, going.size, c.write_page.auto.image)

pub returns-then-bytes-done : goal.returns-then-bytes-done
returns-then-bytes-done c =
    let arrived : (let s = c.args in Writing (geometry_of s.shape) s.image.now s.bytes.now s.k s.start.0 s.position.0 (s.position.0 / s.shape.room) c.page_at-first.result.0 (s.position.0 % s.shape.room) 0 s.image.now) = let s = c in
    writing_page (geometry_of s.args.shape) s.args.image.now s.args.bytes.now s.args.k s.args.start.0 s.args.position.0 s.requires.1 c.if-k-passed.false c.page_at-first.ensures in
    let begun : (let s = c.args in Writing (geometry_of s.shape) s.image.now s.bytes.now s.k s.start.0 s.position.0 (s.position.0 / s.shape.room + 1) c.link-page.result.0 0 c.write_page-done.result c.write_page-done.new.image) = let s = c in
    let put = c.write_page-done in
    writing_turn arrived c.if-k-passed.false put.ensures.image_after put.ensures.value (omega (arith, mod-lt s.args.position.0 s.requires.0)) c.link-page.ensures in
    let going : (let s = c.args in Writing (geometry_of s.shape) s.image.now s.bytes.now s.k s.start.0 s.position.0 c.loop.counter c.loop.page.0 0 c.loop.done c.loop.image) = let s = c.args in c.loop.invariant s.image.now s.start.0 s.position.0 begun in
    writing_end going c.loop-test.true c.if-bytes-done.true c.write_page.ensures.image_after

pub link-next-requires : goal.link-next-requires
link-next-requires c =
    let arrived : (let s = c.args in Writing (geometry_of s.shape) s.image.now s.bytes.now s.k s.start.0 s.position.0 (s.position.0 / s.shape.room) c.page_at-first.result.0 (s.position.0 % s.shape.room) 0 s.image.now) = let s = c in
    writing_page (geometry_of s.args.shape) s.args.image.now s.args.bytes.now s.args.k s.args.start.0 s.args.position.0 s.requires.1 c.if-k-passed.false c.page_at-first.ensures in
    let begun : (let s = c.args in Writing (geometry_of s.shape) s.image.now s.bytes.now s.k s.start.0 s.position.0 (s.position.0 / s.shape.room + 1) c.link-page.result.0 0 c.write_page-done.result c.write_page-done.new.image) = let s = c in
    let put = c.write_page-done in
    writing_turn arrived c.if-k-passed.false put.ensures.image_after put.ensures.value (omega (arith, mod-lt s.args.position.0 s.requires.0)) c.link-page.ensures in
    let going : (let s = c.args in Writing (geometry_of s.shape) s.image.now s.bytes.now s.k s.start.0 s.position.0 c.loop.counter c.loop.page.0 0 c.loop.done c.loop.image) = let s = c.args in c.loop.invariant s.image.now s.start.0 s.position.0 begun in
    (writing_here going c.loop-test.true).1

pub write_page-done-requires-in-loop : goal.write_page-done-requires-in-loop
write_page-done-requires-in-loop c =
    let arrived : (let s = c.args in Writing (geometry_of s.shape) s.image.now s.bytes.now s.k s.start.0 s.position.0 (s.position.0 / s.shape.room) c.page_at-first.result.0 (s.position.0 % s.shape.room) 0 s.image.now) = let s = c in
    writing_page (geometry_of s.args.shape) s.args.image.now s.args.bytes.now s.args.k s.args.start.0 s.args.position.0 s.requires.1 c.if-k-passed.false c.page_at-first.ensures in
    let begun : (let s = c.args in Writing (geometry_of s.shape) s.image.now s.bytes.now s.k s.start.0 s.position.0 (s.position.0 / s.shape.room + 1) c.link-page.result.0 0 c.write_page-done.result c.write_page-done.new.image) = let s = c in
    let put = c.write_page-done in
    writing_turn arrived c.if-k-passed.false put.ensures.image_after put.ensures.value (omega (arith, mod-lt s.args.position.0 s.requires.0)) c.link-page.ensures in
    let going : (let s = c.args in Writing (geometry_of s.shape) s.image.now s.bytes.now s.k s.start.0 s.position.0 c.loop.counter c.loop.page.0 0 c.loop.done c.loop.image) = let s = c.args in c.loop.invariant s.image.now s.start.0 s.position.0 begun in
    let r = going in
    let s = c in
    ((writing_here r c.loop-test.true).0, r.able.room, r.fits, s.requires.2)

pub overflow_step-in-loop : goal.overflow_step-in-loop
overflow_step-in-loop c = omega (arith, c.loop-test.true, c.ranges.k.fits)

pub loop-preserved : goal.loop-preserved
loop-preserved c =
    λ b start from r.
    let put = c.write_page-done-in-loop in
    writing_ahead (c.loop.invariant b start from r) c.loop-test.true put.ensures.image_after put.ensures.value (omega arith) c.link-next.ensures

pub shape_of-image : goal.shape_of-image
shape_of-image c =
    let arrived : (let s = c.args in Writing (geometry_of s.shape) s.image.now s.bytes.now s.k s.start.0 s.position.0 (s.position.0 / s.shape.room) c.page_at-first.result.0 (s.position.0 % s.shape.room) 0 s.image.now) = let s = c in
    writing_page (geometry_of s.args.shape) s.args.image.now s.args.bytes.now s.args.k s.args.start.0 s.args.position.0 s.requires.1 c.if-k-passed.false c.page_at-first.ensures in
    let begun : (let s = c.args in Writing (geometry_of s.shape) s.image.now s.bytes.now s.k s.start.0 s.position.0 (s.position.0 / s.shape.room + 1) c.link-page.result.0 0 c.write_page-done.result c.write_page-done.new.image) = let s = c in
    let put = c.write_page-done in
    writing_turn arrived c.if-k-passed.false put.ensures.image_after put.ensures.value (omega (arith, mod-lt s.args.position.0 s.requires.0)) c.link-page.ensures in
    let going : (let s = c.args in Writing (geometry_of s.shape) s.image.now s.bytes.now s.k s.start.0 s.position.0 c.loop.counter c.loop.page.0 0 c.loop.done c.loop.image) = let s = c.args in c.loop.invariant s.image.now s.start.0 s.position.0 begun in
    going.size

pub returns : goal.returns
returns c =
    let arrived : (let s = c.args in Writing (geometry_of s.shape) s.image.now s.bytes.now s.k s.start.0 s.position.0 (s.position.0 / s.shape.room) c.page_at-first.result.0 (s.position.0 % s.shape.room) 0 s.image.now) = let s = c in
    writing_page (geometry_of s.args.shape) s.args.image.now s.args.bytes.now s.args.k s.args.start.0 s.args.position.0 s.requires.1 c.if-k-passed.false c.page_at-first.ensures in
    let begun : (let s = c.args in Writing (geometry_of s.shape) s.image.now s.bytes.now s.k s.start.0 s.position.0 (s.position.0 / s.shape.room + 1) c.link-page.result.0 0 c.write_page-done.result c.write_page-done.new.image) = let s = c in
    let put = c.write_page-done in
    writing_turn arrived c.if-k-passed.false put.ensures.image_after put.ensures.value (omega (arith, mod-lt s.args.position.0 s.requires.0)) c.link-page.ensures in
    let going : (let s = c.args in Writing (geometry_of s.shape) s.image.now s.bytes.now s.k s.start.0 s.position.0 c.loop.counter c.loop.page.0 0 c.loop.done c.loop.image) = let s = c.args in c.loop.invariant s.image.now s.start.0 s.position.0 begun in
    writing_last going c.loop-test.false
