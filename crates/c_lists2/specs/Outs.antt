-- The numbers that a C caller gets in the out array. Beside a refusal they are zeros.
use Rattle.std.specs.Prelude.{ℕ, List, [], ◌∷◌}
use Rattle.model.specs.Call.{Answer, refused, granted}

-- told, all
unfoldable pub entries_out : Answer (ℕ × ℕ) → List ℕ
entries_out (refused m) = 0 ∷ 0 ∷ []
entries_out (granted n) = n.0 ∷ n.1 ∷ []
