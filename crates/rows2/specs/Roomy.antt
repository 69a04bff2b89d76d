-- What the numbers of an allowed image are, as far as the entries of a page ask: page 0 has room for the header, the bitmap and an entry.
use Rattle.std.specs.Prelude.{ℕ, ◌≤◌}

pub record Roomy (size pages : ℕ) : Type 0 where
  pub large : 256 ≤ size
  pub bound : size ≤ 1024
  pub few : pages ≤ 1024
