use Prim.Native.Nat.{◌-◌}
use Rattle.model.specs.Layout.{link}
use Rattle.proposals.proofs.Numbers.{ChainLeft}
use Rattle.tidy.proofs.number_chain.Given as goal

abbrev pub invariant-loop-number : goal.invariant-loop-number
invariant-loop-number l = ChainLeft (link l.image) l.next l.initial.page.0 l.k l.initial.row l.number l.page.0 (l.number-end - l.number) l.row
