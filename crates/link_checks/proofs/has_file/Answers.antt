-- The digits are a legal name; the path of it has room in a page if the directory's has at most 239 bytes, and any other in 4,352 bytes.
use lib.Seq.{length-take-le}
use native.Mathlib.Omega.{arith}
use mathlib.Core.Path.{◌≡◌, sym, ap, ◌∙◌, subst}
use lib.ListN.{length, take}
use lib.Dec.{T}
use Rattle.volume.specs.Bytes.{Bytes}
use Rattle.model.specs.Name.{legal_text}
use Rattle.model.specs.Image.{tree_of}
use Rattle.link_list.specs.Coding.{accession}
use Rattle.link_list.specs.Links.{node_in, is_file_there}
use Rattle.link_list.proofs.Rows.{Ranges, in_range_lem, held}
use Rattle.link_files.proofs.Loading.{path_read}
use Rattle.link_checks.proofs.Found.{digits_long, accession_legal}
use Rattle.link_checks.proofs.has_file.Goals as goal

pub put_digits-requires : goal.put_digits-requires
put_digits-requires c = let r = in_range_lem _ (held _ c.requires.1) in omega (arith, r.digits.1)

pub slice_bounds-digits-end : goal.slice_bounds-digits-end
slice_bounds-digits-end c =
    let ranged : Ranges c.args.row = in_range_lem _ (held _ c.requires.1) in
    let at-digits = c in omega (arith, ranged.digits.1, at-digits.put_digits.auto.bytes)

pub slice_bounds-is_file-end : goal.slice_bounds-is_file-end
slice_bounds-is_file-end c =
    let ranged : Ranges c.args.row = in_range_lem _ (held _ c.requires.1) in
    let named : (take c.args.row.count c.put_digits.new.bytes ≡ accession c.args.row.count c.args.row.value) × (length (take c.args.row.count c.put_digits.new.bytes) ≡ c.args.row.count) = let row = c.args.row in (
      path_read row.count c.put_digits.new.bytes _ (accession row.count row.value) (sym (digits_long row.count row.value)) c.put_digits.ensures,
      length-take-le _ _ (omega (arith, ranged.digits.1, c.put_digits.auto.bytes)),
    ) in
    sym named.1

pub is_file-requires : goal.is_file-requires
is_file-requires c =
    let ranged : Ranges c.args.row = in_range_lem _ (held _ c.requires.1) in
    let named : (take c.args.row.count c.put_digits.new.bytes ≡ accession c.args.row.count c.args.row.value) × (length (take c.args.row.count c.put_digits.new.bytes) ≡ c.args.row.count) = let row = c.args.row in (
      path_read row.count c.put_digits.new.bytes _ (accession row.count row.value) (sym (digits_long row.count row.value)) c.put_digits.ensures,
      length-take-le _ _ (omega (arith, ranged.digits.1, c.put_digits.auto.bytes)),
    ) in
    let at-digits = c in
    let start = at-digits in
    let r = ranged in
    let name = named in
    (start.requires.0, subst (λ (v : Bytes). T (legal_text v)) (sym name.0) (accession_legal start.args.row.count start.args.row.value r.digits.0 r.digits.1), omega (arith, name.1, r.digits.1, c.if-directory-le239.true))

pub returns-then-directory-le239 : goal.returns-then-directory-le239
returns-then-directory-le239 c =
    let ranged : Ranges c.args.row = in_range_lem _ (held _ c.requires.1) in
    let named : (take c.args.row.count c.put_digits.new.bytes ≡ accession c.args.row.count c.args.row.value) × (length (take c.args.row.count c.put_digits.new.bytes) ≡ c.args.row.count) = let row = c.args.row in (
      path_read row.count c.put_digits.new.bytes _ (accession row.count row.value) (sym (digits_long row.count row.value)) c.put_digits.ensures,
      length-take-le _ _ (omega (arith, ranged.digits.1, c.put_digits.auto.bytes)),
    ) in
    let args = c.args in
    c.is_file.ensures ∙ ap (λ (v : Bytes). is_file_there (node_in args.directory.now v (tree_of args.image.now))) named.0

pub slice_bounds-digits-end-2 : goal.slice_bounds-digits-end-2
slice_bounds-digits-end-2 c =
    let ranged : Ranges c.args.row = in_range_lem _ (held _ c.requires.1) in
    let at-digits = c in omega (arith, ranged.digits.1, at-digits.put_digits.auto.bytes)

pub slice_bounds-is_file-end-2 : goal.slice_bounds-is_file-end-2
slice_bounds-is_file-end-2 c =
    let ranged : Ranges c.args.row = in_range_lem _ (held _ c.requires.1) in
    let named : (take c.args.row.count c.put_digits.new.bytes ≡ accession c.args.row.count c.args.row.value) × (length (take c.args.row.count c.put_digits.new.bytes) ≡ c.args.row.count) = let row = c.args.row in (
      path_read row.count c.put_digits.new.bytes _ (accession row.count row.value) (sym (digits_long row.count row.value)) c.put_digits.ensures,
      length-take-le _ _ (omega (arith, ranged.digits.1, c.put_digits.auto.bytes)),
    ) in
    sym named.1

pub is_file-requires-2 : goal.is_file-requires-2
is_file-requires-2 c =
    let ranged : Ranges c.args.row = in_range_lem _ (held _ c.requires.1) in
    let named : (take c.args.row.count c.put_digits.new.bytes ≡ accession c.args.row.count c.args.row.value) × (length (take c.args.row.count c.put_digits.new.bytes) ≡ c.args.row.count) = let row = c.args.row in (
      path_read row.count c.put_digits.new.bytes _ (accession row.count row.value) (sym (digits_long row.count row.value)) c.put_digits.ensures,
      length-take-le _ _ (omega (arith, ranged.digits.1, c.put_digits.auto.bytes)),
    ) in
    let at-digits = c in
    let start = at-digits in
    let r = ranged in
    let name = named in
    (start.requires.0, subst (λ (v : Bytes). T (legal_text v)) (sym name.0) (accession_legal start.args.row.count start.args.row.value r.digits.0 r.digits.1), omega (arith, name.1, r.digits.1))

pub returns : goal.returns
returns c =
    let ranged : Ranges c.args.row = in_range_lem _ (held _ c.requires.1) in
    let named : (take c.args.row.count c.put_digits.new.bytes ≡ accession c.args.row.count c.args.row.value) × (length (take c.args.row.count c.put_digits.new.bytes) ≡ c.args.row.count) = let row = c.args.row in (
      path_read row.count c.put_digits.new.bytes _ (accession row.count row.value) (sym (digits_long row.count row.value)) c.put_digits.ensures,
      length-take-le _ _ (omega (arith, ranged.digits.1, c.put_digits.auto.bytes)),
    ) in
    let args = c.args in
    c.is_file-2.ensures ∙ ap (λ (v : Bytes). is_file_there (node_in args.directory.now v (tree_of args.image.now))) named.0
