-- A name of an entry, byte by byte: what may stand behind a byte, and behind the flags before the first.
use Rattle.std.specs.Prelude.{ℕ, Bool, not, ◌&&◌, ◌||◌, eqb}
use Rattle.model.specs.Name.{legal_byte}

-- a zero, or a legal byte behind one that is no zero
unfoldable pub may_follow : (before c : ℕ) → Bool
may_follow before c = eqb c 0 || (legal_byte c && not (eqb before 0))
