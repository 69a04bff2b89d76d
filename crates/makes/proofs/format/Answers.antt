-- A length that is not allowed is refused; else page 0 is cleared and the header put in front of it, which is what the model writes.
use Rattle.makes.proofs.Formats.{allowed, format_refused, format_done}
use Rattle.laws.proofs.Facts.{Sized}
use Rattle.fields.proofs.Plain.{arith, told, untold}
use Rattle.makes.proofs.format.Goals as goal

pub returns-then-not-length_is_allowed : goal.returns-then-not-length_is_allowed
returns-then-not-length_is_allowed c = format_refused _ (search untold)

pub overflow_sub-header : goal.overflow_sub-header
overflow_sub-header c =
    let sized : Sized c.args.image.now = allowed _ (told c.length_is_allowed.ensures c.if-not-length_is_allowed.false-raw) in
    let s = sized in omega arith

pub zero_page-requires : goal.zero_page-requires
zero_page-requires c =
    let sized : Sized c.args.image.now = allowed _ (told c.length_is_allowed.ensures c.if-not-length_is_allowed.false-raw) in
    omega (arith, sized.low)

pub fill_page-requires : goal.fill_page-requires
fill_page-requires c =
    let sized : Sized c.args.image.now = allowed _ (told c.length_is_allowed.ensures c.if-not-length_is_allowed.false-raw) in
    (omega (arith, sized.low, c.zero_page.auto.image), omega arith)

pub returns : goal.returns
returns c = format_done _ _ _ _ (search told) c.page_count-n.ensures c.zero_page.ensures c.fill_page.ensures
