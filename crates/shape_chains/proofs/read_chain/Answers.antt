-- `read_chain` follows the links to the page of the position, copies what it has from there on, and then what each page has of the bytes wanted. What is
-- wanted of the pages left goes behind what is there: of every reading at the beginning of the loop a turn makes one that is a page further.
use Rattle.fields.proofs.Plain.{◌+◌, ◌-◌, ◌/◌, ◌%◌, arith}
use native.Mathlib.Nat.{mod-lt}
use Rattle.volume.proofs.Reading.{Reading, reading_here, reading_turn, reading_last}
use Rattle.shape.specs.Geometry.{geometry_of}
use Rattle.shape_chains.proofs.Passing.{inside_front, reading_none, reading_page, reading_end}
use Rattle.shape_chains.proofs.read_chain.Goals as goal

pub nonzero_div-passed : goal.nonzero_div-passed
nonzero_div-passed c = omega (arith, c.requires.0)

pub returns-then-k-passed : goal.returns-then-k-passed
returns-then-k-passed c =
    let s = c in
    reading_none (geometry_of s.args.shape) s.args.image.now s.args.k s.args.start.0 s.args.position.0 s.args.count s.args.buffer.now s.requires.1 s.requires.3 s.requires.2 c.if-k-passed.true

pub page_at-first-requires : goal.page_at-first-requires
page_at-first-requires c =
    let s = c in
    inside_front (geometry_of s.args.shape) s.args.image.now (s.args.position.0 / s.args.shape.room) s.args.k s.args.start.0 c.if-k-passed.false s.requires.2

pub nonzero_rem-position : goal.nonzero_rem-position
nonzero_rem-position c = omega (arith, c.requires.0)

pub read_page-done-requires : goal.read_page-done-requires
read_page-done-requires c =
    let arrived : (let s = c.args in Reading (geometry_of s.shape) s.image.now s.k s.start.0 s.position.0 s.count s.buffer.now (s.position.0 / s.shape.room) c.page_at-first.result.0 (s.position.0 % s.shape.room) 0 s.buffer.now) = let s = c in
    reading_page (geometry_of s.args.shape) s.args.image.now s.args.k s.args.start.0 s.args.position.0 s.args.count s.args.buffer.now s.requires.1 s.requires.3 s.requires.2 c.if-k-passed.false c.page_at-first.ensures in
    let s = c in ((reading_here arrived c.if-k-passed.false).0, s.requires.1, omega arith, s.requires.3, s.requires.4)

pub link-page-requires : goal.link-page-requires
link-page-requires c =
    let arrived : (let s = c.args in Reading (geometry_of s.shape) s.image.now s.k s.start.0 s.position.0 s.count s.buffer.now (s.position.0 / s.shape.room) c.page_at-first.result.0 (s.position.0 % s.shape.room) 0 s.buffer.now) = let s = c in
    reading_page (geometry_of s.args.shape) s.args.image.now s.args.k s.args.start.0 s.args.position.0 s.args.count s.args.buffer.now s.requires.1 s.requires.3 s.requires.2 c.if-k-passed.false c.page_at-first.ensures in
    (reading_here arrived c.if-k-passed.false).1

pub loop-init : goal.loop-init
loop-init c = λ start from d r. r

pub overflow_sub-count : goal.overflow_sub-count
overflow_sub-count c =
    let arrived : (let s = c.args in Reading (geometry_of s.shape) s.image.now s.k s.start.0 s.position.0 s.count s.buffer.now (s.position.0 / s.shape.room) c.page_at-first.result.0 (s.position.0 % s.shape.room) 0 s.buffer.now) = let s = c in
    reading_page (geometry_of s.args.shape) s.args.image.now s.args.k s.args.start.0 s.args.position.0 s.args.count s.args.buffer.now s.requires.1 s.requires.3 s.requires.2 c.if-k-passed.false c.page_at-first.ensures in
    let begun : (let s = c.args in Reading (geometry_of s.shape) s.image.now s.k s.start.0 s.position.0 s.count s.buffer.now (s.position.0 / s.shape.room + 1) c.link-page.result.0 0 c.read_page-done.result c.read_page-done.new.buffer) = let s = c in
    let read = c.read_page-done in
    reading_turn arrived c.if-k-passed.false s.requires.1 s.requires.3 read.auto.buffer read.ensures.buffer_after read.ensures.value (omega (arith, mod-lt s.args.position.0 s.requires.0)) c.link-page.ensures in
    let going : (let s = c.args in Reading (geometry_of s.shape) s.image.now s.k s.start.0 s.position.0 s.count s.buffer.now c.loop.counter c.loop.page.0 0 c.loop.done c.loop.buffer) = let s = c.args in c.loop.invariant s.start.0 s.position.0 s.buffer.now begun in
    going.fits

pub read_page-requires : goal.read_page-requires
read_page-requires c =
    let arrived : (let s = c.args in Reading (geometry_of s.shape) s.image.now s.k s.start.0 s.position.0 s.count s.buffer.now (s.position.0 / s.shape.room) c.page_at-first.result.0 (s.position.0 % s.shape.room) 0 s.buffer.now) = let s = c in
    reading_page (geometry_of s.args.shape) s.args.image.now s.args.k s.args.start.0 s.args.position.0 s.args.count s.args.buffer.now s.requires.1 s.requires.3 s.requires.2 c.if-k-passed.false c.page_at-first.ensures in
    let begun : (let s = c.args in Reading (geometry_of s.shape) s.image.now s.k s.start.0 s.position.0 s.count s.buffer.now (s.position.0 / s.shape.room + 1) c.link-page.result.0 0 c.read_page-done.result c.read_page-done.new.buffer) = let s = c in
    let read = c.read_page-done in
    reading_turn arrived c.if-k-passed.false s.requires.1 s.requires.3 read.auto.buffer read.ensures.buffer_after read.ensures.value (omega (arith, mod-lt s.args.position.0 s.requires.0)) c.link-page.ensures in
    let going : (let s = c.args in Reading (geometry_of s.shape) s.image.now s.k s.start.0 s.position.0 s.count s.buffer.now c.loop.counter c.loop.page.0 0 c.loop.done c.loop.buffer) = let s = c.args in c.loop.invariant s.start.0 s.position.0 s.buffer.now begun in
    let r = going in
    let s = c in
    ((reading_here r c.loop-test.true).0, s.requires.1, r.fits, omega (arith, r.size, s.requires.3), s.requires.4)

pub shape_of-buffer-then-count-done : goal.shape_of-buffer-then-count-done
shape_of-buffer-then-count-done c =
    let arrived : (let s = c.args in Reading (geometry_of s.shape) s.image.now s.k s.start.0 s.position.0 s.count s.buffer.now (s.position.0 / s.shape.room) c.page_at-first.result.0 (s.position.0 % s.shape.room) 0 s.buffer.now) = let s = c in
    reading_page (geometry_of s.args.shape) s.args.image.now s.args.k s.args.start.0 s.args.position.0 s.args.count s.args.buffer.now s.requires.1 s.requires.3 s.requires.2 c.if-k-passed.false c.page_at-first.ensures in
    let begun : (let s = c.args in Reading (geometry_of s.shape) s.image.now s.k s.start.0 s.position.0 s.count s.buffer.now (s.position.0 / s.shape.room + 1) c.link-page.result.0 0 c.read_page-done.result c.read_page-done.new.buffer) = let s = c in
    let read = c.read_page-done in
    reading_turn arrived c.if-k-passed.false s.requires.1 s.requires.3 read.auto.buffer read.ensures.buffer_after read.ensures.value (omega (arith, mod-lt s.args.position.0 s.requires.0)) c.link-page.ensures in
    let going : (let s = c.args in Reading (geometry_of s.shape) s.image.now s.k s.start.0 s.position.0 s.count s.buffer.now c.loop.counter c.loop.page.0 0 c.loop.done c.loop.buffer) = let s = c.args in c.loop.invariant s.start.0 s.position.0 s.buffer.now begun in
    omega (arith, going.size, c.read_page.auto.buffer)

pub returns-then-count-done : goal.returns-then-count-done
returns-then-count-done c =
    let arrived : (let s = c.args in Reading (geometry_of s.shape) s.image.now s.k s.start.0 s.position.0 s.count s.buffer.now (s.position.0 / s.shape.room) c.page_at-first.result.0 (s.position.0 % s.shape.room) 0 s.buffer.now) = let s = c in
    reading_page (geometry_of s.args.shape) s.args.image.now s.args.k s.args.start.0 s.args.position.0 s.args.count s.args.buffer.now s.requires.1 s.requires.3 s.requires.2 c.if-k-passed.false c.page_at-first.ensures in
    let begun : (let s = c.args in Reading (geometry_of s.shape) s.image.now s.k s.start.0 s.position.0 s.count s.buffer.now (s.position.0 / s.shape.room + 1) c.link-page.result.0 0 c.read_page-done.result c.read_page-done.new.buffer) = let s = c in
    let read = c.read_page-done in
    reading_turn arrived c.if-k-passed.false s.requires.1 s.requires.3 read.auto.buffer read.ensures.buffer_after read.ensures.value (omega (arith, mod-lt s.args.position.0 s.requires.0)) c.link-page.ensures in
    let going : (let s = c.args in Reading (geometry_of s.shape) s.image.now s.k s.start.0 s.position.0 s.count s.buffer.now c.loop.counter c.loop.page.0 0 c.loop.done c.loop.buffer) = let s = c.args in c.loop.invariant s.start.0 s.position.0 s.buffer.now begun in
    let s = c in
    reading_end s.requires.1 s.requires.3 going c.loop-test.true c.if-count-done.true c.read_page.auto.buffer c.read_page.ensures.buffer_after

pub link-next-requires : goal.link-next-requires
link-next-requires c =
    let arrived : (let s = c.args in Reading (geometry_of s.shape) s.image.now s.k s.start.0 s.position.0 s.count s.buffer.now (s.position.0 / s.shape.room) c.page_at-first.result.0 (s.position.0 % s.shape.room) 0 s.buffer.now) = let s = c in
    reading_page (geometry_of s.args.shape) s.args.image.now s.args.k s.args.start.0 s.args.position.0 s.args.count s.args.buffer.now s.requires.1 s.requires.3 s.requires.2 c.if-k-passed.false c.page_at-first.ensures in
    let begun : (let s = c.args in Reading (geometry_of s.shape) s.image.now s.k s.start.0 s.position.0 s.count s.buffer.now (s.position.0 / s.shape.room + 1) c.link-page.result.0 0 c.read_page-done.result c.read_page-done.new.buffer) = let s = c in
    let read = c.read_page-done in
    reading_turn arrived c.if-k-passed.false s.requires.1 s.requires.3 read.auto.buffer read.ensures.buffer_after read.ensures.value (omega (arith, mod-lt s.args.position.0 s.requires.0)) c.link-page.ensures in
    let going : (let s = c.args in Reading (geometry_of s.shape) s.image.now s.k s.start.0 s.position.0 s.count s.buffer.now c.loop.counter c.loop.page.0 0 c.loop.done c.loop.buffer) = let s = c.args in c.loop.invariant s.start.0 s.position.0 s.buffer.now begun in
    (reading_here going c.loop-test.true).1

pub read_page-done-requires-in-loop : goal.read_page-done-requires-in-loop
read_page-done-requires-in-loop c =
    let arrived : (let s = c.args in Reading (geometry_of s.shape) s.image.now s.k s.start.0 s.position.0 s.count s.buffer.now (s.position.0 / s.shape.room) c.page_at-first.result.0 (s.position.0 % s.shape.room) 0 s.buffer.now) = let s = c in
    reading_page (geometry_of s.args.shape) s.args.image.now s.args.k s.args.start.0 s.args.position.0 s.args.count s.args.buffer.now s.requires.1 s.requires.3 s.requires.2 c.if-k-passed.false c.page_at-first.ensures in
    let begun : (let s = c.args in Reading (geometry_of s.shape) s.image.now s.k s.start.0 s.position.0 s.count s.buffer.now (s.position.0 / s.shape.room + 1) c.link-page.result.0 0 c.read_page-done.result c.read_page-done.new.buffer) = let s = c in
    let read = c.read_page-done in
    reading_turn arrived c.if-k-passed.false s.requires.1 s.requires.3 read.auto.buffer read.ensures.buffer_after read.ensures.value (omega (arith, mod-lt s.args.position.0 s.requires.0)) c.link-page.ensures in
    let going : (let s = c.args in Reading (geometry_of s.shape) s.image.now s.k s.start.0 s.position.0 s.count s.buffer.now c.loop.counter c.loop.page.0 0 c.loop.done c.loop.buffer) = let s = c.args in c.loop.invariant s.start.0 s.position.0 s.buffer.now begun in
    let r = going in
    let s = c in
    ((reading_here r c.loop-test.true).0, s.requires.1, r.fits, omega (arith, r.size, s.requires.3), s.requires.4)

pub overflow_step-in-loop : goal.overflow_step-in-loop
overflow_step-in-loop c = omega (arith, c.loop-test.true, c.ranges.k.fits)

pub loop-preserved : goal.loop-preserved
loop-preserved c =
    let arrived : (let s = c.args in Reading (geometry_of s.shape) s.image.now s.k s.start.0 s.position.0 s.count s.buffer.now (s.position.0 / s.shape.room) c.page_at-first.result.0 (s.position.0 % s.shape.room) 0 s.buffer.now) = let s = c in
    reading_page (geometry_of s.args.shape) s.args.image.now s.args.k s.args.start.0 s.args.position.0 s.args.count s.args.buffer.now s.requires.1 s.requires.3 s.requires.2 c.if-k-passed.false c.page_at-first.ensures in
    let begun : (let s = c.args in Reading (geometry_of s.shape) s.image.now s.k s.start.0 s.position.0 s.count s.buffer.now (s.position.0 / s.shape.room + 1) c.link-page.result.0 0 c.read_page-done.result c.read_page-done.new.buffer) = let s = c in
    let read = c.read_page-done in
    reading_turn arrived c.if-k-passed.false s.requires.1 s.requires.3 read.auto.buffer read.ensures.buffer_after read.ensures.value (omega (arith, mod-lt s.args.position.0 s.requires.0)) c.link-page.ensures in
    λ start from d r.
    let s = c in
    let read = c.read_page-done-in-loop in
    reading_turn (c.loop.invariant start from d r) c.loop-test.true s.requires.1 (omega (arith, s.requires.3, begun.size, r.size)) read.auto.buffer read.ensures.buffer_after read.ensures.value (omega arith) c.link-next.ensures

pub shape_of-buffer : goal.shape_of-buffer
shape_of-buffer c =
    let arrived : (let s = c.args in Reading (geometry_of s.shape) s.image.now s.k s.start.0 s.position.0 s.count s.buffer.now (s.position.0 / s.shape.room) c.page_at-first.result.0 (s.position.0 % s.shape.room) 0 s.buffer.now) = let s = c in
    reading_page (geometry_of s.args.shape) s.args.image.now s.args.k s.args.start.0 s.args.position.0 s.args.count s.args.buffer.now s.requires.1 s.requires.3 s.requires.2 c.if-k-passed.false c.page_at-first.ensures in
    let begun : (let s = c.args in Reading (geometry_of s.shape) s.image.now s.k s.start.0 s.position.0 s.count s.buffer.now (s.position.0 / s.shape.room + 1) c.link-page.result.0 0 c.read_page-done.result c.read_page-done.new.buffer) = let s = c in
    let read = c.read_page-done in
    reading_turn arrived c.if-k-passed.false s.requires.1 s.requires.3 read.auto.buffer read.ensures.buffer_after read.ensures.value (omega (arith, mod-lt s.args.position.0 s.requires.0)) c.link-page.ensures in
    let going : (let s = c.args in Reading (geometry_of s.shape) s.image.now s.k s.start.0 s.position.0 s.count s.buffer.now c.loop.counter c.loop.page.0 0 c.loop.done c.loop.buffer) = let s = c.args in c.loop.invariant s.start.0 s.position.0 s.buffer.now begun in
    going.size

pub returns : goal.returns
returns c =
    let arrived : (let s = c.args in Reading (geometry_of s.shape) s.image.now s.k s.start.0 s.position.0 s.count s.buffer.now (s.position.0 / s.shape.room) c.page_at-first.result.0 (s.position.0 % s.shape.room) 0 s.buffer.now) = let s = c in
    reading_page (geometry_of s.args.shape) s.args.image.now s.args.k s.args.start.0 s.args.position.0 s.args.count s.args.buffer.now s.requires.1 s.requires.3 s.requires.2 c.if-k-passed.false c.page_at-first.ensures in
    let begun : (let s = c.args in Reading (geometry_of s.shape) s.image.now s.k s.start.0 s.position.0 s.count s.buffer.now (s.position.0 / s.shape.room + 1) c.link-page.result.0 0 c.read_page-done.result c.read_page-done.new.buffer) = let s = c in
    let read = c.read_page-done in
    reading_turn arrived c.if-k-passed.false s.requires.1 s.requires.3 read.auto.buffer read.ensures.buffer_after read.ensures.value (omega (arith, mod-lt s.args.position.0 s.requires.0)) c.link-page.ensures in
    let going : (let s = c.args in Reading (geometry_of s.shape) s.image.now s.k s.start.0 s.position.0 s.count s.buffer.now c.loop.counter c.loop.page.0 0 c.loop.done c.loop.buffer) = let s = c.args in c.loop.invariant s.start.0 s.position.0 s.buffer.now begun in
    reading_last going c.loop-test.false
