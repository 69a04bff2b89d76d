-- Each turn puts the entry at hand: with those that are left the rows are all that were asked for, or as many as there are.
use Rattle.fields.proofs.Plain.{◌≡◌, ◌∙◌, refl, arith, ◌+◌, ◌-◌, ◌*◌}
use Rattle.volume.proofs.Puts.{part_length}
use Rattle.lists2.proofs.Turns.{put_first, put_next, put_last, put_all, after_long}
use Rattle.lists2.proofs.put_rows.Goals as goal

pub loop-i-init : goal.loop-i-init
loop-i-init c = put_first c.requires.1

pub position_of-position-requires : goal.position_of-position-requires
position_of-position-requires c = (c.requires.0, c.loop-i.invariant.stands)

pub slice_bounds-put_row-end : goal.slice_bounds-put_row-end
slice_bounds-put_row-end c = omega (arith, c.loop-i.invariant.long, c.loop-i-test.true, c.requires.2)

pub put_row-requires : goal.put_row-requires
put_row-requires c =
    let n : 32 * c.loop-i.i + 32 - 32 * c.loop-i.i ≡ 32 = omega arith in (
      part_length (32 * c.loop-i.i) (32 * c.loop-i.i + 32 - 32 * c.loop-i.i) c.loop-i.rows (omega (arith, c.loop-i.invariant.long, c.loop-i-test.true, c.requires.2)) ∙ n,
      c.position_of-position.ensures.1,
      omega (arith, c.requires.0.bound),
    )

pub next_entry-requires : goal.next_entry-requires
next_entry-requires c = (c.requires.0, c.loop-i.invariant.stands)

pub loop-i-preserved : goal.loop-i-preserved
loop-i-preserved c =
    put_next c.loop-i.invariant c.requires.0 c.loop-i-test.true c.requires.2 c.position_of-position.ensures.0 c.put_row.ensures
    c.in-Some.ensures.0 refl c.in-Some.ensures.1

pub shape_of-rows-in_default : goal.shape_of-rows-in_default
shape_of-rows-in_default c =
    after_long c.loop-i.invariant c.requires.0 c.loop-i-test.true c.requires.2 c.position_of-position.ensures.0 c.put_row.ensures

pub returns-in_default : goal.returns-in_default
returns-in_default c =
    put_last c.loop-i.invariant c.requires.0 c.loop-i-test.true c.requires.2 c.position_of-position.ensures.0 c.put_row.ensures
    c.in_default.ensures.0 refl

pub shape_of-rows : goal.shape_of-rows
shape_of-rows c = c.loop-i.invariant.long

pub returns : goal.returns
returns c = put_all c.loop-i.invariant (omega (arith, c.loop-i-test.false))
