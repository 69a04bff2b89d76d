-- The entries of a directory before one.
use Rattle.std.specs.Prelude.{ℕ, zero, suc, ◌+◌, ◌*◌, List, [], ◌∷◌}
use Rattle.model.specs.Entry.{entries_start}

-- the position of entry i of the directory on page p
abbrev pub position : (page i : ℕ) → ℕ
position p i = entries_start p + 32 * i

-- the positions of the entries before entry i, the last one first
unfoldable pub earlier : (page i : ℕ) → List ℕ
earlier p zero = []
earlier p (suc i) = position p i ∷ earlier p i
