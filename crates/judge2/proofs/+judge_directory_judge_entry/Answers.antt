-- `judge_directory` judges one occupied entry a turn, and what is left of the walk is judged as all of it. `judge_entry` calls it for pages that got their
-- owner there, so fewer have none: twice their number falls from a directory to its entries and from an entry to the directory below.
use Rattle.fields.proofs.Plain.{arith}
use Rattle.faults.proofs.Answers.{told_on}
use Rattle.cursor2.proofs.Seeking.{number_few as few-on-page}
use Rattle.names2.proofs.Reaching.{roomy, pages_some, pages_lie, here}
use Rattle.judge2.proofs.Walk.{walking_first, walking_next, walking_faulty}
use Rattle.judge2.proofs.Cursors.{ready, paged, number_few, flags_of, stale_entry, vacant_entry, fresh_file}
use Rattle.judge2.proofs.Cursors.{sized_directory, faulty_pages, directory_below, pages_inside, pages_fewer, size_small}
use Rattle.judge2.proofs.Vacancies.{going_first, going_few, going_next, met_none, walking_met, reached_met, occupied_met, behind_short}
use Rattle.judge2.proofs.Shapes.{as_many_pages, goes}
use Rattle.judge2.proofs.+judge_directory_judge_entry.Goals as goal

pub judge_directory-shape_of_image-whole-requires : goal.judge_directory-shape_of_image-whole-requires
judge_directory-shape_of_image-whole-requires t c = c.requires.0

pub judge_directory-first_entry-cursor-requires : goal.judge_directory-first_entry-cursor-requires
judge_directory-first_entry-cursor-requires t c = let formed = as_many_pages c.shape_of_image-whole.ensures c.requires.1 in (roomy formed, pages_some formed, pages_lie formed _ c.requires.2)

pub judge_directory-loop-met-init : goal.judge_directory-loop-met-init
judge_directory-loop-met-init t c =
    let formed = as_many_pages c.shape_of_image-whole.ensures c.requires.1 in (
      walking_first c.requires.1,
      goes formed (going_first formed _ _ c.first_entry-cursor.ensures.0 c.first_entry-cursor.ensures.1),
    )

pub judge_directory-shape_of_image-cartridge-requires : goal.judge_directory-shape_of_image-cartridge-requires
judge_directory-shape_of_image-cartridge-requires t c = c.requires.0

pub judge_directory-next_occupied-requires : goal.judge_directory-next_occupied-requires
judge_directory-next_occupied-requires t c =
    let formed = c.shape_of_image-cartridge.ensures in
    let going = c.loop-met.invariant.1.by _ _ formed in
    (roomy formed, going.between, omega (arith, going_few _ formed going))

pub judge_directory-returns-in_default : goal.judge_directory-returns-in_default
judge_directory-returns-in_default t c f h =
    let formed = c.shape_of_image-cartridge.ensures in
    let walk = c.loop-met.invariant in
    met_none (paged formed) walk.0 (walk.1.by _ _ formed) c.in_default.ensures.0 f h

pub judge_directory-judge_entry-requires : goal.judge_directory-judge_entry-requires
judge_directory-judge_entry-requires t c =
    let pre = c.requires in
    let formed = c.shape_of_image-cartridge.ensures in
    let walk = c.loop-met.invariant in
    let going = walk.1.by _ _ formed in
    let met = c.in-Some.ensures in (
      omega (arith, walk.0.few),
      (
        formed,
        omega (arith, walk.0.each, formed.count),
        pre.2,
        reached_met (paged formed) walk.0 going _ met.0 met.1,
        occupied_met (paged formed) walk.0 going _ met.0 met.1,
      ),
    )

pub judge_directory-returns-in_err-judge_entry : goal.judge_directory-returns-in_err-judge_entry
judge_directory-returns-in_err-judge_entry t c f h =
    let formed = c.shape_of_image-cartridge.ensures in
    let walk = c.loop-met.invariant in
    let going = walk.1.by _ _ formed in
    let met = c.in-Some.ensures in
    let reached = reached_met (paged formed) walk.0 going _ met.0 met.1 in
    told_on _ _ _ c.from_residual.ensures.1
    (walking_faulty (walking_met (paged formed) walk.0 going _ met.0 met.1) _ _ (here reached) c.in_err-judge_entry.ensures f h)

pub judge_directory-overflow_add-cursor : goal.judge_directory-overflow_add-cursor
judge_directory-overflow_add-cursor t c =
    let formed = c.shape_of_image-cartridge.ensures in
    let walk = c.loop-met.invariant in
    let met = c.in-Some.ensures in
    let reached = reached_met (paged formed) walk.0 (walk.1.by _ _ formed) _ met.0 met.1 in
    omega (arith, few-on-page reached.stands (roomy formed))

pub judge_directory-overflow_add-number : goal.judge_directory-overflow_add-number
judge_directory-overflow_add-number t c =
    let formed = c.shape_of_image-cartridge.ensures in
    let walk = c.loop-met.invariant in
    let met = c.in-Some.ensures in
    let reached = reached_met (paged formed) walk.0 (walk.1.by _ _ formed) _ met.0 met.1 in
    omega (arith, number_few _ _ formed reached)

pub judge_directory-loop-met-smaller : goal.judge_directory-loop-met-smaller
judge_directory-loop-met-smaller t c =
    let formed = c.shape_of_image-cartridge.ensures in
    let walk = c.loop-met.invariant in
    let going = walk.1.by _ _ formed in
    let met = c.in-Some.ensures in
    omega (
      arith,
      going.count,
      behind_short (paged formed) walk.0 going _ met.0 met.1,
      (going_next (paged formed) walk.0 going _ met.0 met.1).count,
    )

pub judge_directory-loop-met-preserved : goal.judge_directory-loop-met-preserved
judge_directory-loop-met-preserved t c =
    let formed = c.shape_of_image-cartridge.ensures in
    let walk = c.loop-met.invariant in
    let going = walk.1.by _ _ formed in
    let met = c.in-Some.ensures in
    let reached = reached_met (paged formed) walk.0 going _ met.0 met.1 in (
      walking_next (walking_met (paged formed) walk.0 going _ met.0 met.1) _ _ (here reached) (paged formed) _ c.in_ok-judge_entry.ensures,
      goes formed (going_next (paged formed) walk.0 going _ met.0 met.1),
    )

pub judge_entry-name_is_fresh-requires : goal.judge_entry-name_is_fresh-requires
judge_entry-name_is_fresh-requires t c = let pre = c.requires in (pre.0, pre.2, pre.3, flags_of pre.0 _ pre.4)

pub judge_entry-returns-then-not-name_is_fresh : goal.judge_entry-returns-then-not-name_is_fresh
judge_entry-returns-then-not-name_is_fresh t c f h = let pre = c.requires in stale_entry _ _ _ _ _ _ _ pre.0 pre.3 pre.4 _ c.name_is_fresh.ensures c.if-not-name_is_fresh.true-raw _

pub judge_entry-position_of-requires : goal.judge_entry-position_of-requires
judge_entry-position_of-requires t c = let pre = c.requires in (roomy pre.0, pre.3.stands)

pub judge_entry-pages_for-k-requires : goal.judge_entry-pages_for-k-requires
judge_entry-pages_for-k-requires t c = size_small c.requires.0 _ _ _ c.entry_at.ensures.1 c.in-File.is

pub judge_entry-own_chain-requires : goal.judge_entry-own_chain-requires
judge_entry-own_chain-requires t c = search ready

pub judge_entry-returns-then-size-shape : goal.judge_entry-returns-then-size-shape
judge_entry-returns-then-size-shape t c f h = search sized_directory

pub judge_entry-own_directory-requires : goal.judge_entry-own_directory-requires
judge_entry-own_directory-requires t c = search ready

pub judge_entry-returns-in_err-own_directory-in-Directory : goal.judge_entry-returns-in_err-own_directory-in-Directory
judge_entry-returns-in_err-own_directory-in-Directory t c f h =
    let pre = c.requires in
    told_on _ _ _ c.from_residual.ensures.1
    (faulty_pages _ _ _ _ _ _ _ _ _ pre.0 pre.3 c.position_of.ensures.0 c.entry_at.ensures.0
    _ _ _ c.name_is_fresh.ensures c.in-Directory.is c.if-not-name_is_fresh.false-raw c.if-size-shape.false _ c.in_err-own_directory-in-Directory.ensures)

pub judge_entry-judge_directory-requires : goal.judge_entry-judge_directory-requires
judge_entry-judge_directory-requires t c =
    let pre = c.requires in
    let owned = c.in_ok-own_directory-in-Directory.ensures in (
      omega (arith, pages_fewer pre.0 _ _ _ _ _ pre.1 owned),
      (
        pre.0.allowed,
        omega (arith, pre.1, c.own_directory.auto.marks, pre.0.count),
        pages_inside pre.0 _ _ _ _ _ pre.1 owned,
      ),
    )

pub judge_entry-returns-in-Vacant : goal.judge_entry-returns-in-Vacant
judge_entry-returns-in-Vacant t c f h = search vacant_entry

pub judge_entry-returns-in-File : goal.judge_entry-returns-in-File
judge_entry-returns-in-File t c f h = search fresh_file

pub judge_entry-returns-in_ok-own_directory-in-Directory : goal.judge_entry-returns-in_ok-own_directory-in-Directory
judge_entry-returns-in_ok-own_directory-in-Directory t c f h =
    let pre = c.requires in
    let owned = c.in_ok-own_directory-in-Directory.ensures in
    directory_below _ _ _ _ _ _ _ _ _ pre.0 pre.3 c.position_of.ensures.0 c.entry_at.ensures.0
    _ _ _ c.name_is_fresh.ensures c.in-Directory.is c.if-not-name_is_fresh.false-raw c.if-size-shape.false _ owned
    (pages_fewer pre.0 _ _ _ _ _ pre.1 owned) _ c.judge_directory.ensures f h
