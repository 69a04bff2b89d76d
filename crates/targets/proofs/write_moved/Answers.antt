-- The header, and then one page a turn, stand behind each other: what is laid, with the pages to come, is always the moved image.
use Rattle.model.specs.Layout.{page_count}
use Rattle.volume.proofs.Puts.{part_length}
use Rattle.moves.specs.Tidy.{moved_page}
use Rattle.moves.proofs.Places.{accepted_is}
use Rattle.proposals.proofs.Owned.{fits, sized}
use Rattle.proposals.proofs.Check.{accepted_under}
use Rattle.targets.proofs.Target.{pages_are, page_of, page_low, header_laid, laid_header, laid_lent, laid_last}
use mathlib.Core.Path.{◌≡◌, refl, sym, ap, ◌∙◌}
use Prim.Native.Nat.{◌+◌, ◌-◌, ◌<◌, ◌≤◌}
use native.Mathlib.Omega.{arith}
use Rattle.targets.proofs.write_moved.Goals as goal

pub invert-requires : goal.invert-requires
invert-requires c =
    let start = c in
    let s = sized start.requires.0 in
    (λ p l. accepted_under _ _ start.requires.1 p (omega (arith, l, start.requires.2)), omega (arith, s.high, (accepted_is _ _ start.requires.1).many))

pub slice_bounds-move_header-end : goal.slice_bounds-move_header-end
slice_bounds-move_header-end c =
    let start = c in
    let s = sized start.requires.0 in
    omega (arith, s.whole, s.low, start.requires.3)

pub move_header-requires : goal.move_header-requires
move_header-requires c =
    let invert = c in
    let start = invert in
    let s = sized start.requires.0 in (
      pages_are _ _ start.requires.0.is_sound start.requires.1 _ _ start.requires.2 invert.invert.ensures,
      fits
          start.requires.0,
      part_length 0 256 start.args.target.now (omega (arith, s.whole, s.low, start.requires.3)),
    )

pub loop-q-init : goal.loop-q-init
loop-q-init c =
    let move-header = c in
    let invert = move-header in
    let start = invert in (
      omega arith,
      invert.invert.auto.pages ∙ start.requires.2,
      laid_header _ _ start.requires.0.is_sound
          start.requires.1 start.args.target.now _ start.requires.3 (move-header.move_header.ensures ∙ header_laid _ _
          start.requires.0.is_sound start.requires.1 _ _ start.requires.2 invert.invert.ensures),
    )

pub first_byte-first-requires : goal.first_byte-first-requires
first_byte-first-requires c =
    let turn = c in
    let start = turn in
    let s = sized start.requires.0 in
    omega (arith, s.high, turn.loop-q.invariant.1)

pub overflow_add-end : goal.overflow_add-end
overflow_add-end c =
    let turn = c in
    let start = turn in
    let s = sized start.requires.0 in
    omega (arith, s.high, turn.loop-q.invariant.1, c.first_byte-first.ensures)

pub bounds-pages-q : goal.bounds-pages-q
bounds-pages-q c =
    let turn = c in
    let invert = turn in
    let start = invert in
    omega (arith, turn.loop-q.invariant.1, invert.invert.auto.pages, start.requires.2)

pub slice_bounds-move_page-end : goal.slice_bounds-move_page-end
slice_bounds-move_page-end c =
    let first_byte = c in
    let test = first_byte in
    let turn = test in
    let start = turn in
    let s = sized start.requires.0 in
    omega (arith, s.whole, turn.loop-q.invariant.1, turn.loop-q.invariant.2.long, first_byte.first_byte-first.ensures, test.loop-q-test.true)

pub move_page-requires : goal.move_page-requires
move_page-requires c =
    let page = c.from.ensures in
    let first_byte = c in
    let test = first_byte in
    let turn = test in
    let invert = turn in
    let start = invert in
    let s = sized start.requires.0 in
    let l : turn.loop-q.q < page_count start.args.image.now = omega (arith, turn.loop-q.invariant.1, test.loop-q-test.true, invert.invert.auto.pages, start.requires.2) in
    let e = page_of _ _ start.requires.0.is_sound start.requires.1 _ _ start.requires.2 invert.invert.ensures turn.loop-q.q l in
    let n : first_byte.first_byte-first.result + 256 - first_byte.first_byte-first.result ≡ 256 = omega arith in (
      start.requires.0,
      omega (arith, page, e, page_low _ _ start.requires.0.is_sound start.requires.1 turn.loop-q.q turn.loop-q.invariant.0 l),
      omega (arith, page, (pages_are _ _ start.requires.0.is_sound start.requires.1 _ _ start.requires.2 invert.invert.ensures).low turn.loop-q.q),
      part_length first_byte.first_byte-first.result _ turn.loop-q.target (omega (arith, first_byte.first_byte-first.ensures, s.whole, turn.loop-q.invariant.2.long, l)) ∙ n,
    )

pub overflow_step-q : goal.overflow_step-q
overflow_step-q c =
    let turn = c in
    let start = turn in
    let s = sized start.requires.0 in
    omega (arith, s.high, turn.loop-q.invariant.1)

pub loop-q-preserved : goal.loop-q-preserved
loop-q-preserved c =
    let move-page = c in
    let page = move-page.from.ensures in
    let first_byte = move-page in
    let test = first_byte in
    let turn = test in
    let invert = turn in
    let start = invert in
    let l : turn.loop-q.q < page_count start.args.image.now = omega (arith, turn.loop-q.invariant.1, test.loop-q-test.true, invert.invert.auto.pages, start.requires.2) in (
      omega arith,
      turn.loop-q.invariant.1,
      laid_lent _ _ start.requires.0.is_sound start.requires.1 _ _ _ _ _ turn.loop-q.invariant.0 l first_byte.first_byte-first.ensures refl
          (move-page.move_page.ensures ∙ ap (moved_page start.args.places.now start.args.image.now)
          (page ∙ page_of _ _ start.requires.0.is_sound start.requires.1 _ _ start.requires.2 invert.invert.ensures turn.loop-q.q l)) turn.loop-q.invariant.2,
    )

pub shape_of-pages : goal.shape_of-pages
shape_of-pages c = c.invert.auto.pages

pub shape_of-target : goal.shape_of-target
shape_of-target c =
    let turn = c in
    let start = turn in
    turn.loop-q.invariant.2.long ∙ sym start.requires.3

pub returns : goal.returns
returns c =
    let turn = c in
    let invert = turn in
    let start = invert in
    let l : page_count start.args.image.now ≤ turn.loop-q.q = omega (arith, turn.loop-q.invariant.1, c.loop-q-test.false, invert.invert.auto.pages, start.requires.2) in
    laid_last _ _ start.requires.0.is_sound start.requires.1 _ _ l turn.loop-q.invariant.2
