-- `next_occupied` goes one page on a turn: what the row left has behind its vacant entries, the whole row has.
use Rattle.fields.proofs.Plain.{arith, refl}
use Rattle.occupied2.proofs.Walking.{page_lies, entries_lie, passed_few, met_row, met_count, met_end, passing_next}
use Rattle.occupied2.proofs.next_occupied.Goals as goal

pub loop-shape-init : goal.loop-shape-init
loop-shape-init c = record { between = c.requires.1; left = refl; count = refl }

pub entries_start-requires : goal.entries_start-requires
entries_start-requires c = (c.requires.0, omega (arith, page_lies c.loop-shape.invariant.between, c.shared_slice_known-1.given 0))

pub occupied_number-first-requires : goal.occupied_number-first-requires
occupied_number-first-requires c =
    let inside = entries_lie c.loop-shape.invariant.between c.requires.0 in (
      omega (arith, c.loop-shape.invariant.between.within, c.entry_count-count.ensures),
      omega (arith, inside, c.entries_start.ensures, c.entry_count-count.ensures),
      omega (arith, inside, c.entries_start.ensures, c.entry_count-count.ensures, c.shared_slice_known-1.given 0),
    )

pub overflow_sub-passed : goal.overflow_sub-passed
overflow_sub-passed c = c.occupied_number-first.ensures.1

pub overflow_add-passed : goal.overflow_add-passed
overflow_add-passed c = omega (arith, passed_few c.loop-shape.invariant c.entries_start.ensures c.entry_count-count.ensures c.occupied_number-first.ensures, c.requires.2)

pub returns-then-first-count : goal.returns-then-first-count
returns-then-first-count c =
    let o = c.loop-shape.invariant in (
      met_row o c.entries_start.ensures c.entry_count-count.ensures c.occupied_number-first.ensures c.if-first-count.true,
      (
        record { within = omega (arith, c.if-first-count.true, c.entry_count-count.ensures); pages = o.between.pages },
        met_count o c.entries_start.ensures c.entry_count-count.ensures c.occupied_number-first.ensures c.if-first-count.true,
      ),
    )

pub next_page-requires : goal.next_page-requires
next_page-requires c = (c.requires.0, c.loop-shape.invariant.between)

pub loop-shape-smaller : goal.loop-shape-smaller
loop-shape-smaller c = c.in_ok-here.ensures.2.0

pub loop-shape-preserved : goal.loop-shape-preserved
loop-shape-preserved c =
    passing_next c.loop-shape.invariant c.entries_start.ensures c.entry_count-count.ensures c.occupied_number-first.ensures c.if-first-count.false
    c.in_ok-here.ensures.0 refl c.in_ok-here.ensures.1

pub returns-in_err-here : goal.returns-in_err-here
returns-in_err-here c =
    rw c.from_residual.ensures (
      met_end c.loop-shape.invariant c.entries_start.ensures c.entry_count-count.ensures c.occupied_number-first.ensures c.if-first-count.false
          c.in_err-here.ensures.0 refl,
      tt,
    )
