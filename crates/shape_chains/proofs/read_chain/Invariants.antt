use Rattle.fields.proofs.Plain.{ℕ, ◌-◌}
use Rattle.volume.specs.Bytes.{Bytes}
use Rattle.volume.proofs.Reading.{Reading}
use Rattle.shape.specs.Geometry.{geometry_of}
use Rattle.shape_chains.proofs.read_chain.Given as goal

abbrev pub invariant-loop : goal.invariant-loop
invariant-loop l = (start from : ℕ) (d : Bytes) → Reading (geometry_of l.shape) l.image l.k start from l.count d l.initial.counter l.initial.page.0 0 l.initial.done l.initial.buffer
    → Reading (geometry_of l.shape) l.image l.k start from l.count d l.counter l.page.0 0 l.done l.buffer

abbrev pub decreases-loop : goal.decreases-loop
decreases-loop l = l.k - l.counter
