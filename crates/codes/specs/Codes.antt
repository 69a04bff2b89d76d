-- What a caller in C is told of a model's answer: a code, which is 0 or a refusal's number with its place above it.
use Rattle.std.specs.Prelude.{◌≡◌, ℕ, ◌+◌, ◌*◌, ◌/◌, ◌%◌, ◌≤◌, ◌<◌}
use Rattle.model.specs.Call.{Refusal, Answer, refused, granted}

-- the three numbers of a place in 16 bits each
unfoldable pub packed : ℕ × ℕ × ℕ → ℕ
packed place = place.0 + 65536 * (place.1 + 65536 * place.2)

-- The number in the low byte, and above it the place. All that a call can give have this room, also on a path of any length: law `code_apart`.
abbrev pub refusal_code : Refusal → ℕ
refusal_code m = m.number + 256 * packed m.place

-- 0 if the call is granted
unfoldable pub code_of : {A : Type 0} → Answer A → ℕ
code_of (refused m) = refusal_code m
code_of (granted x) = 0

-- a code that tells its refusal
pub record Apart (code : ℕ) (m : Refusal) : Type 0 where
  pub refuses : 1 ≤ code
  pub number : code % 256 ≡ m.number
  pub first : code / 256 % 65536 ≡ m.place.0
  pub second : code / 16777216 % 65536 ≡ m.place.1
  pub third : code / 1099511627776 ≡ m.place.2

-- a place that has this room
pub record Fits (place : ℕ × ℕ × ℕ) : Type 0 where
  pub first : place.0 < 65536
  pub second : place.1 < 65536
  pub third : place.2 < 65536

-- where a refusal points, nowhere for a granted call
abbrev pub place_of : {A : Type 0} → Answer A → ℕ × ℕ × ℕ
place_of (refused m) = m.place
place_of (granted x) = (0, 0, 0)
