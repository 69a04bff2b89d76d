-- What a word has of the bytes that it was read from, and where the ones of a word end.
use Rattle.std.specs.Prelude.{◌≡◌, ℕ, ◌+◌, ◌/◌, ◌%◌, ◌<◌, ◌≤◌}
use Rattle.volume.specs.Bytes.{Bytes, byte_at, bit}

-- the lowest m bits of w are those of the bytes from position `at` on, each with its lowest bit first
pub record Holds (b : Bytes) (at m w : ℕ) : Type 0 where
  pub each : (j : ℕ) → j < m → bit j w ≡ bit (j % 8) (byte_at b (at + j / 8))

-- r is the place of the lowest zero among the lowest m bits of w, or m if they are all ones
pub record Ends (m w r : ℕ) : Type 0 where
  pub below : (j : ℕ) → j < r → bit j w ≡ 1
  pub here : r < m → bit r w ≡ 0
  pub most : r ≤ m
