-- What a caller in C is told of an answer of the link list (paper 02 §4): a code as for the base's calls, but that 21, 22 and 23 have one number for a
-- place, which is the byte of the file or the row's number.
use Rattle.std.specs.Prelude.{◌≡◌, ℕ, ◌+◌, ◌*◌, ◌-◌, ◌/◌, ◌%◌, ◌^◌, ◌≤◌, min, Bool, not, ◌||◌, T, eqb, if◌then◌else◌}
use Rattle.model.specs.Call.{Refusal, Answer, refused, granted}
use Rattle.codes.specs.Codes.{refusal_code, Apart, Fits}

unfoldable pub points_to_row : Refusal → Bool
points_to_row m = eqb m.number 21 || eqb m.number 22 || eqb m.number 23

-- the largest place that is told of them, and what is told of one that is larger
abbrev pub most_row : ℕ
most_row = 2 ^ 56 - 1

unfoldable pub link_code : Refusal → ℕ
link_code m = if points_to_row m then m.number + 256 * min m.place.0 most_row else refusal_code m

-- 0 if the call is granted
unfoldable pub link_code_of : {A : Type 0} → Answer A → ℕ
link_code_of (refused m) = link_code m
link_code_of (granted x) = 0

-- the place of any other has the base's room
unfoldable pub LinkFits : Refusal → Type 0
LinkFits m = T (not (points_to_row m)) → Fits m.place

abbrev pub AnswerFits : {A : Type 0} → Answer A → Type 0
AnswerFits (refused m) = LinkFits m
AnswerFits (granted x) = Unit {0}

-- a code that tells its refusal
pub record LinkApart (code : ℕ) (m : Refusal) : Type 0 where
  pub refuses : 1 ≤ code
  pub number : code % 256 ≡ m.number
  pub row : T (points_to_row m) → code / 256 ≡ min m.place.0 most_row
  pub base : T (not (points_to_row m)) → Apart code m
