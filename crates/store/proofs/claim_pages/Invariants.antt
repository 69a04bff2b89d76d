use Prim.Native.Nat.{◌-◌}
use Rattle.store.proofs.Claims.{Claiming}
use Rattle.store.proofs.claim_pages.Given as goal

abbrev pub invariant-loop : goal.invariant-loop
invariant-loop l = Claiming l.n l.k l.initial.header l.counter l.header

abbrev pub decreases-loop : goal.decreases-loop
decreases-loop l = l.k - l.counter
