-- The definition computed: the numbers that a C caller gets.
use mathlib.Core.Path.{◌≡◌, refl}
use Prim.Native.Nat.{ℕ}
use Rattle.model.specs.Call.{Refusal, refusal, refusal_at, refused, granted}
use Rattle.codes.specs.Codes.{packed}
use Rattle.link_codes.specs.Codes.{points_to_row, link_code, link_code_of}

abbrev Coded : Refusal → ℕ → Type 0
Coded m n = link_code_of {A = Unit {0}} (refused m) ≡ n

abbrev Rows : Type 0
Rows =
    (link_code_of {A = Unit {0}} (granted tt) ≡ 0)
    × Coded (refusal_at 21 0) 21
    × Coded (refusal_at 22 3) 790
    × Coded (refusal_at 23 65536) 16777239
    × Coded (refusal 24) 24
    -- the base's: a byte of the path, and a place of three numbers
    × Coded (refusal_at 5 7) 1797
    × Coded (record { number = 17; place = (2, 1, 3) }) 3298551661073
    -- a place below the largest that is told, that one, and one above it
    × Coded (refusal_at 22 72057594037927934) 18446744073709551126
    × Coded (refusal_at 22 72057594037927935) 18446744073709551382
    × Coded (refusal_at 22 72057594037927936) 18446744073709551382

pub codes_computed : Rows
unfolding link_code_of link_code points_to_row packed
codes_computed = (refl, refl, refl, refl, refl, refl, refl, refl, refl, refl)
