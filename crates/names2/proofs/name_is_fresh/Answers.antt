-- `name_is_fresh` asks the entries of one page a turn, from the directory's first on: what the pages left answer, all before the entry at hand answer.
use Rattle.fields.proofs.Plain.{rules, arith, refl}
use Rattle.occupied2.proofs.Walking.{page_lies, entries_lie}
use Rattle.names2.proofs.Reaching.{roomy, pages_some, pages_lie, row_whole}
use Rattle.names2.proofs.Names.{asking_first, asking_between, few_answer, page_has_it, asking_next, pages_end, flags_here, illegal_name, legal_name_lem}
use Rattle.names2.proofs.name_is_fresh.Goals as goal

pub position_of-at-requires : goal.position_of-at-requires
position_of-at-requires c = (search roomy, search rules)

pub name_is_legal-requires : goal.name_is_legal-requires
name_is_legal-requires c = (search rules, search flags_here)

pub returns-then-not-name_is_legal : goal.returns-then-not-name_is_legal
returns-then-not-name_is_legal c = search illegal_name

pub overflow_sub-other : goal.overflow_sub-other
overflow_sub-other c = search pages_some

pub loop-left-init : goal.loop-left-init
loop-left-init c = let pre = c.requires in asking_first c.args.directory (roomy pre.0) (pages_some pre.0) (pages_lie pre.0 _ pre.1)

pub entry_count-count-requires : goal.entry_count-count-requires
entry_count-count-requires c = search roomy

pub entries_start-start-requires : goal.entries_start-start-requires
entries_start-start-requires c = (roomy c.requires.0, omega (arith, page_lies (asking_between c.loop-left.invariant), c.shared_slice_known-1.given 0))

pub names_differ-requires : goal.names_differ-requires
names_differ-requires c = (
  omega (arith, entries_lie (asking_between c.loop-left.invariant) (roomy c.requires.0), c.entries_start-start.ensures, c.entry_count-count.ensures, c.if-left-count.true),
  c.position_of-at.ensures.1,
)

pub returns-then-left-count : goal.returns-then-left-count
returns-then-left-count c =
    let turn = c in
    let name = turn in
    let start = name in
    legal_name_lem _ _ _ _ _ _ _ _ (name.position_of-at.ensures.0) (name.name_is_legal.ensures) start.requires.2 _
    (row_whole start.requires.0 start.args.directory) turn.if-not-name_is_legal.false-raw _
    (few_answer turn.loop-left.invariant c.entries_start-start.ensures c.entry_count-count.ensures _ c.if-left-count.true c.names_differ.ensures)

pub names_differ-requires-in-loop-left : goal.names_differ-requires-in-loop-left
names_differ-requires-in-loop-left c = (
  omega (arith, entries_lie (asking_between c.loop-left.invariant) (roomy c.requires.0), c.entries_start-start.ensures, c.entry_count-count.ensures),
  c.position_of-at.ensures.1,
)

pub returns-then-not-names_differ : goal.returns-then-not-names_differ
returns-then-not-names_differ c =
    let turn = c in
    let name = turn in
    let start = name in
    legal_name_lem _ _ _ _ _ _ _ _ (name.position_of-at.ensures.0) (name.name_is_legal.ensures) start.requires.2 _
    (row_whole start.requires.0 start.args.directory) turn.if-not-name_is_legal.false-raw _
    (page_has_it turn.loop-left.invariant c.entries_start-start.ensures c.entry_count-count.ensures c.if-left-count.false _ c.names_differ-in-loop-left.ensures c.if-not-names_differ.true-raw)

pub next_page-requires : goal.next_page-requires
next_page-requires c = (roomy c.requires.0, asking_between c.loop-left.invariant)

pub loop-left-smaller : goal.loop-left-smaller
loop-left-smaller c = c.in-Some.ensures.2.0

pub loop-left-preserved : goal.loop-left-preserved
loop-left-preserved c =
    asking_next c.loop-left.invariant c.entries_start-start.ensures c.entry_count-count.ensures c.if-left-count.false _ c.names_differ-in-loop-left.ensures c.if-not-names_differ.false-raw
    c.in-Some.ensures.0 refl c.in-Some.ensures.1 c.in-Some.ensures.2.1

pub returns-in_default : goal.returns-in_default
returns-in_default c =
    let turn = c in
    let name = turn in
    let start = name in
    legal_name_lem _ _ _ _ _ _ _ _ (name.position_of-at.ensures.0) (name.name_is_legal.ensures) start.requires.2 _
    (row_whole start.requires.0 start.args.directory) turn.if-not-name_is_legal.false-raw _
    (pages_end turn.loop-left.invariant c.entries_start-start.ensures c.entry_count-count.ensures c.if-left-count.false _ c.names_differ-in-loop-left.ensures c.if-not-names_differ.false-raw c.in_default.ensures.0 refl)
