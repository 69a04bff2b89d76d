use Rattle.fields.proofs.Plain.{ℕ, ◌-◌}
use Rattle.volume.specs.Bytes.{Bytes}
use Rattle.volume.proofs.Writing.{Writing}
use Rattle.shape.specs.Geometry.{geometry_of}
use Rattle.shape_chains.proofs.write_chain.Given as goal

abbrev pub invariant-loop : goal.invariant-loop
invariant-loop l = (b : Bytes) (start from : ℕ) → Writing (geometry_of l.shape) b l.bytes l.k start from l.initial.counter l.initial.page.0 0 l.initial.done l.initial.image
    → Writing (geometry_of l.shape) b l.bytes l.k start from l.counter l.page.0 0 l.done l.image

abbrev pub decreases-loop : goal.decreases-loop
decreases-loop l = l.k - l.counter
