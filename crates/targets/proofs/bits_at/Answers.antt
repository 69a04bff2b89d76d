-- Eight bits, the lowest first, are the byte.
use Rattle.targets.proofs.Target.{eight_bits}
use native.Mathlib.Omega.{arith}
use Rattle.targets.proofs.bits_at.Goals as goal

pub place_bit-requires-8 : goal.place_bit-requires-8
place_bit-requires-8 c =
    let start = c in
    (start.requires.0, omega arith, start.requires.2)

pub returns : goal.returns
returns c =
    let place-bit7 = c in
    let place-bit6 = place-bit7 in
    let place-bit5 = place-bit6 in
    let place-bit4 = place-bit5 in
    let place-bit3 = place-bit4 in
    let place-bit2 = place-bit3 in
    let place-bit = place-bit2 in
    eight_bits _ _ _ _ _ _ _ _ _ _ _ place-bit.place_bit.ensures place-bit2.place_bit-2.ensures
    place-bit3.place_bit-3.ensures place-bit4.place_bit-4.ensures place-bit5.place_bit-5.ensures
    place-bit6.place_bit-6.ensures place-bit7.place_bit-7.ensures c.place_bit-8.ensures
