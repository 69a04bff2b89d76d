-- `audit` asks for the length and the header, and lends a row in which the header alone owns a page.
use Rattle.fields.proofs.Plain.{arith}
use Rattle.claims.proofs.Claims.{told}
use Rattle.audit.proofs.Marks.{allowed, few, first_length, first_row_lem, no_length, no_header, no_row, yes_row}
use Rattle.audit.proofs.audit.Goals as goal

pub returns-then-not-length_is_allowed : goal.returns-then-not-length_is_allowed
returns-then-not-length_is_allowed c = no_length c.args.image.now c.length_is_allowed.ensures c.if-not-length_is_allowed.true-raw

pub header_is_right-requires : goal.header_is_right-requires
header_is_right-requires c =
    let h = allowed _ (told c.length_is_allowed.ensures c.if-not-length_is_allowed.false-raw) in
    omega arith

pub returns-then-not-header_is_right : goal.returns-then-not-header_is_right
returns-then-not-header_is_right c =
    let test1 = c in
    no_header test1.args.image.now test1.length_is_allowed.ensures test1.if-not-length_is_allowed.false-raw
    c.header_is_right.ensures c.if-not-header_is_right.true-raw

pub slice_bounds-row-end : goal.slice_bounds-row-end
slice_bounds-row-end c = search (few, told)

pub slice_bounds-audit_row-end : goal.slice_bounds-audit_row-end
slice_bounds-audit_row-end c = search (first_length, told)

pub audit_row-requires : goal.audit_row-requires
audit_row-requires c =
    let test1 = c in
    first_row_lem test1.args.image.now _ c.page_count-n.ensures
    (told test1.length_is_allowed.ensures test1.if-not-length_is_allowed.false-raw)

pub returns-then-not-audit_row : goal.returns-then-not-audit_row
returns-then-not-audit_row c =
    let test2 = c in
    let test1 = test2 in
    let a = c.audit_row in
    no_row test1.args.image.now test1.length_is_allowed.ensures test1.if-not-length_is_allowed.false-raw
    test2.header_is_right.ensures test2.if-not-header_is_right.false-raw a.result _ a.ensures c.if-not-audit_row.true-raw

pub returns : goal.returns
returns c =
    let test2 = c in
    let test1 = test2 in
    let a = c.audit_row in
    yes_row test1.args.image.now test1.length_is_allowed.ensures test1.if-not-length_is_allowed.false-raw
    test2.header_is_right.ensures test2.if-not-header_is_right.false-raw a.result _ a.ensures c.if-not-audit_row.false-raw _ c.page_count-n.ensures
