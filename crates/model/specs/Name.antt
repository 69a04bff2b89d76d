-- Document 01, "A slot": legal names. In an entry and in the tree a name is 16 bytes, padded with zeros; in a path it has no padding.
-- Every byte counts, so case does, and every leading zero; "." and ".." are ordinary names.
use Rattle.std.specs.Prelude.{ℕ, ◌-◌, Bool, true, false, not, ◌&&◌, [], ◌∷◌, ◌++◌, length, replicate, eqb, leb, if◌then◌else◌}
use Rattle.volume.specs.Bytes.{Bytes}
use Rattle.volume.specs.Lists.{all, conditions}

-- 0x20 to 0x7E without `/`
unfoldable pub legal_byte : ℕ → Bool
legal_byte c = conditions (leb 0x20 c ∷ leb c 0x7E ∷ not (eqb c 0x2F) ∷ [])

-- legal bytes, and from the first zero on only zeros
unfoldable pub legal_rest : Bytes → Bool
legal_rest [] = true
legal_rest (c ∷ r) = if eqb c 0 then all (eqb 0) r else (legal_byte c && legal_rest r)

-- the 16 name bytes of an entry: one legal byte or more, then only zeros
unfoldable pub legal_name : Bytes → Bool
legal_name [] = false
legal_name (c ∷ r) = legal_byte c && legal_rest r

-- a name without padding: 1 to 16 legal bytes
unfoldable pub legal_text : Bytes → Bool
legal_text v = conditions (leb 1 (length v) ∷ leb (length v) 16 ∷ all legal_byte v ∷ [])

unfoldable pub padded : Bytes → Bytes
padded v = v ++ replicate (16 - length v) 0

-- a name without its padding: the bytes before the first zero
unfoldable pub unpadded : Bytes → Bytes
unpadded [] = []
unpadded (c ∷ r) = let rest = unpadded r in if eqb c 0 then [] else c ∷ rest
