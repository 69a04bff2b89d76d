-- The lines are asked in their order, and the first that holds is told; where none does the shape was made by the code that stands in byte 6.
use Rattle.fields.proofs.Plain.{arith}
use Rattle.header2.proofs.Headers.{long_enough, code_low, by_own_code, wrong_length, wrong_version, wrong_code, wrong_map, right_header}
use Rattle.header2.proofs.read_header.Goals as goal

pub returns-then-not-length_is_allowed : goal.returns-then-not-length_is_allowed
returns-then-not-length_is_allowed c = (search wrong_length, tt)

pub is_version_2-requires : goal.is_version_2-requires
is_version_2-requires c = omega (arith, long_enough c.length_is_allowed.ensures c.if-not-length_is_allowed.false-raw)

pub returns-then-not-is_version_2 : goal.returns-then-not-is_version_2
returns-then-not-is_version_2 c = (search wrong_version, tt)

pub bounds-image-6 : goal.bounds-image-6
bounds-image-6 c = omega (arith, long_enough c.length_is_allowed.ensures c.if-not-length_is_allowed.false-raw)

pub returns-then-not-code_fits : goal.returns-then-not-code_fits
returns-then-not-code_fits c = (search wrong_code, tt)

pub shape_of-cartridge-requires : goal.shape_of-cartridge-requires
shape_of-cartridge-requires c = code_low _ c.code_fits.ensures c.if-not-code_fits.false-raw

pub load-requires : goal.load-requires
load-requires c =
    omega (
      arith,
      long_enough c.length_is_allowed.ensures
          c.if-not-length_is_allowed.false-raw,
    )

pub returns-then-load-cartridge : goal.returns-then-load-cartridge
returns-then-load-cartridge c = (search wrong_map, tt)

pub returns : goal.returns
returns c = (search right_header, by_own_code c.args.image.now c.shape_of-cartridge.result.shape _ _ c.from-code.ensures c.shape_of-cartridge.ensures)
