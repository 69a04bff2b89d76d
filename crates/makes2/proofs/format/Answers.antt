-- A length or a page code that is not allowed is refused, by their lines; else the image is written as the model writes it.
use Rattle.makes2.proofs.Formats.{format_long, format_unfit, format_allowed, format_done}
use Rattle.model2.specs.Layout.{valid_length, fit_code}
use Rattle.fields.proofs.Plain.{◌≡◌, true, length, told, untold}
use Rattle.makes2.proofs.format.Goals as goal

pub returns-then-not-length_is_allowed : goal.returns-then-not-length_is_allowed
returns-then-not-length_is_allowed c = format_long _ _ (search untold)

pub returns-then-not-code_fits : goal.returns-then-not-code_fits
returns-then-not-code_fits c = format_unfit _ _ (search told) (search untold)

pub format_image-requires : goal.format_image-requires
format_image-requires c =
    let passed : (let a = c.args in (valid_length (length a.image.now) ≡ true) × (fit_code a.code (length a.image.now) ≡ true)) = (told c.length_is_allowed.ensures c.if-not-length_is_allowed.false-raw, told c.code_fits.ensures c.if-not-code_fits.false-raw) in
    let p = passed in format_allowed c.args.image.now _ p.0 p.1

pub returns : goal.returns
returns c =
    let passed : (let a = c.args in (valid_length (length a.image.now) ≡ true) × (fit_code a.code (length a.image.now) ≡ true)) = (told c.length_is_allowed.ensures c.if-not-length_is_allowed.false-raw, told c.code_fits.ensures c.if-not-code_fits.false-raw) in
    let p = passed in
    format_done c.args.image.now _ p.0 p.1 c.format_image.ensures
