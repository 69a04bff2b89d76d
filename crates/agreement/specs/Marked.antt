-- The bitmap and byte 3 beside a row of owners (paper 02 §8), for the contracts of the second judge's parts.
use Rattle.std.specs.Prelude.{ℕ, zero, suc, ◌+◌, ◌-◌, Bool, not, ◌&&◌, List, get_or, eqb}
use Rattle.std.specs.Bool.{beq}
use Rattle.volume.specs.Bytes.{Bytes}
use Rattle.volume.specs.Lists.{all, up_to}
use Rattle.model.specs.Layout.{page_count, free_count, page_bit}

-- page p is marked exactly if somebody owns it
abbrev pub agrees : Bytes → List ℕ → ℕ → Bool
agrees b row p = beq (eqb (page_bit b p) 1) (not (eqb (get_or row p 0) 0))

-- how many of the first n pages nobody owns
unfoldable pub nobodies : List ℕ → ℕ → ℕ
nobodies row zero = 0
nobodies row (suc n) = nobodies row n + (1 - get_or row n 0)

-- a page is marked exactly if somebody owns it, and byte 3 says how many are not
unfoldable pub is_marked : Bytes → List ℕ → Bool
is_marked b row =
    all (λ p. beq (eqb (page_bit b p) 1) (not (eqb (get_or row p 0) 0))) (up_to (page_count b))
    && eqb (free_count b) (nobodies row (page_count b))
