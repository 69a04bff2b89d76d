-- `names_differ` asks one entry a turn: none of those before has the name.
use Rattle.fields.proofs.Plain.{arith, sym, ◌∙◌}
use Rattle.names2.proofs.Names.{one_has_it, one_differs, none_asked, all_asked}
use Rattle.names2.proofs.names_differ.Goals as goal

pub loop-k-init : goal.loop-k-init
loop-k-init c = all_asked _ _ _

pub overflow_mul-k : goal.overflow_mul-k
overflow_mul-k c = omega (arith, c.loop-k-test.true, c.requires.0, c.shared_slice_known-1.given 0)

pub overflow_add-start : goal.overflow_add-start
overflow_add-start c = omega (arith, c.loop-k-test.true, c.requires.0, c.shared_slice_known-1.given 0)

pub has_name_of-requires : goal.has_name_of-requires
has_name_of-requires c = (omega (arith, c.loop-k-test.true, c.requires.0), c.requires.1)

pub returns-then-has_name_of : goal.returns-then-has_name_of
returns-then-has_name_of c = one_has_it c.args.image.now c.args.start _ c.args.at _ c.has_name_of.ensures _ c.loop-k-test.true c.if-has_name_of.true ∙ c.loop-k.invariant

pub loop-k-preserved : goal.loop-k-preserved
loop-k-preserved c = sym (one_differs c.args.image.now c.args.start _ c.args.at _ c.has_name_of.ensures _ c.loop-k-test.true c.if-has_name_of.false) ∙ c.loop-k.invariant

pub returns : goal.returns
returns c = none_asked _ _ _ _ c.loop-k-test.false ∙ c.loop-k.invariant
