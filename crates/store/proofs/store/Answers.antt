-- Each return knows which line stopped the store, or that it passed them all; then the number says whose page it is, and the law of that page says its bytes.
use Rattle.store.proofs.Stores.{is_less, not_less, name_fits, not_a_page, store_refused, long, store_lacking, free_few, store_past, Passed, can_store, header_fits, date_long, in_root, on_parent, content_stored, name_long, entry_long, header_stored, parent_stored}
use Rattle.outcomes.proofs.Exits.{told_on}
use Rattle.model.specs.Layout.{pages_for, free_count}
use native.Mathlib.Omega.{arith}
use Prim.Native.Nat.{◌≤◌}
use lib.ListN.{length}
use borrow.Author.Rules.{rules}
use Rattle.store.proofs.store.Goals as goal

pub returns-then-page-ne256 : goal.returns-then-page-ne256
returns-then-page-ne256 c =
    let whole = not_a_page _ _ _ _ _ _ c.if-page-ne256.true in
    record { result_value = whole.0; page_after = whole.1 }

pub returns-in_err-opening : goal.returns-in_err-opening
returns-in_err-opening c =
    let whole = store_refused _ _ _ _ _ _ c.if-page-ne256.false c.in_err-opening.ensures.1 in
    record { result_value = told_on _ _ _ _ c.from_residual.ensures.1 whole.0; page_after = whole.1 }

pub lacks_pages-requires : goal.lacks_pages-requires
lacks_pages-requires c =
    let opened = c.in_ok-opening.ensures.1 in
    long _ _ _ opened

pub returns-then-lacks_pages : goal.returns-then-lacks_pages
returns-then-lacks_pages c =
    let opened = c.in_ok-opening.ensures.1 in
    let whole = store_lacking _ _ _ _ _ _ (search rules) opened (search is_less) in
    record { result_value = whole.0; page_after = whole.1 }

pub store_count-requires : goal.store_count-requires
store_count-requires c =
    let enough : pages_for (length c.args.content.now) ≤ free_count c.args.image.now = search not_less in
    let opened = c.in_ok-opening.ensures.1 in
    omega (arith, free_few _ _ _ opened, enough)

pub returns-then-store_count-number : goal.returns-then-store_count-number
returns-then-store_count-number c =
    let enough : pages_for (length c.args.content.now) ≤ free_count c.args.image.now = search not_less in
    let opened = c.in_ok-opening.ensures.1 in
    let whole = store_past _ _ _ _ _ _ (search rules) opened enough _ _ c.pages_for-k.ensures c.store_count.ensures (search rules) in
    record { result_value = whole.0; page_after = whole.1 }

pub store_content-requires : goal.store_content-requires
store_content-requires c =
    let enough : pages_for (length c.args.content.now) ≤ free_count c.args.image.now = search not_less in
    let opened = c.in_ok-opening.ensures.1 in
    let passed : Passed c.args.image.now c.args.path.now c.args.date.now c.args.content.now c.args.number c.args.page.now c.in_ok-opening.opening.entry c.in_ok-opening.opening.begins c.pages_for-k.result = record { paged = c.if-page-ne256.false; placed = opened; enough = enough; pages = c.pages_for-k.ensures; number = omega arith } in
    (can_store passed, omega arith, search rules)

pub returns-then-number-k : goal.returns-then-number-k
returns-then-number-k c =
    let enough : pages_for (length c.args.content.now) ≤ free_count c.args.image.now = search not_less in
    let opened = c.in_ok-opening.ensures.1 in
    let passed : Passed c.args.image.now c.args.path.now c.args.date.now c.args.content.now c.args.number c.args.page.now c.in_ok-opening.opening.entry c.in_ok-opening.opening.begins c.pages_for-k.result = record { paged = c.if-page-ne256.false; placed = opened; enough = enough; pages = c.pages_for-k.ensures; number = omega arith } in
    let whole = content_stored passed (search rules) (search rules) (search rules) in
    record { result_value = whole.0; page_after = whole.1 }

pub pad-name-requires : goal.pad-name-requires
pad-name-requires c = name_fits _ _ c.in_ok-opening.ensures.0.1

pub entry_bytes-bytes-requires : goal.entry_bytes-bytes-requires
entry_bytes-bytes-requires c =
    let enough : pages_for (length c.args.content.now) ≤ free_count c.args.image.now = search not_less in
    let opened = c.in_ok-opening.ensures.1 in
    let passed : Passed c.args.image.now c.args.path.now c.args.date.now c.args.content.now c.args.number c.args.page.now c.in_ok-opening.opening.entry c.in_ok-opening.opening.begins c.pages_for-k.result = record { paged = c.if-page-ne256.false; placed = opened; enough = enough; pages = c.pages_for-k.ensures; number = omega arith } in
    let p = passed in (name_long p c.pad-name.ensures, date_long p, can_store p)

pub store_header-requires : goal.store_header-requires
store_header-requires c =
    let enough : pages_for (length c.args.content.now) ≤ free_count c.args.image.now = search not_less in
    let opened = c.in_ok-opening.ensures.1 in
    let passed : Passed c.args.image.now c.args.path.now c.args.date.now c.args.content.now c.args.number c.args.page.now c.in_ok-opening.opening.entry c.in_ok-opening.opening.begins c.pages_for-k.result = record { paged = c.if-page-ne256.false; placed = opened; enough = enough; pages = c.pages_for-k.ensures; number = omega arith } in
    let p = passed in ((header_fits p).0, (header_fits p).1, (header_fits p).2, entry_long p c.pad-name.ensures c.entry_bytes-bytes.ensures, c.if-page-ne256.false, in_root p)

pub returns-then-number-k-2 : goal.returns-then-number-k-2
returns-then-number-k-2 c =
    let enough : pages_for (length c.args.content.now) ≤ free_count c.args.image.now = search not_less in
    let opened = c.in_ok-opening.ensures.1 in
    let passed : Passed c.args.image.now c.args.path.now c.args.date.now c.args.content.now c.args.number c.args.page.now c.in_ok-opening.opening.entry c.in_ok-opening.opening.begins c.pages_for-k.result = record { paged = c.if-page-ne256.false; placed = opened; enough = enough; pages = c.pages_for-k.ensures; number = omega arith } in
    let whole = header_stored passed c.pad-name.ensures c.entry_bytes-bytes.ensures (search rules) (search rules) in
    record { result_value = whole.0; page_after = whole.1 }

pub store_parent-requires : goal.store_parent-requires
store_parent-requires c =
    let enough : pages_for (length c.args.content.now) ≤ free_count c.args.image.now = search not_less in
    let opened = c.in_ok-opening.ensures.1 in
    let passed : Passed c.args.image.now c.args.path.now c.args.date.now c.args.content.now c.args.number c.args.page.now c.in_ok-opening.opening.entry c.in_ok-opening.opening.begins c.pages_for-k.result = record { paged = c.if-page-ne256.false; placed = opened; enough = enough; pages = c.pages_for-k.ensures; number = omega arith } in
    let p = passed in (entry_long p c.pad-name.ensures c.entry_bytes-bytes.ensures, c.if-page-ne256.false, (on_parent p).0, (on_parent p).1)

pub returns : goal.returns
returns c =
    let enough : pages_for (length c.args.content.now) ≤ free_count c.args.image.now = search not_less in
    let opened = c.in_ok-opening.ensures.1 in
    let passed : Passed c.args.image.now c.args.path.now c.args.date.now c.args.content.now c.args.number c.args.page.now c.in_ok-opening.opening.entry c.in_ok-opening.opening.begins c.pages_for-k.result = record { paged = c.if-page-ne256.false; placed = opened; enough = enough; pages = c.pages_for-k.ensures; number = omega arith } in
    let whole = parent_stored passed c.pad-name.ensures c.entry_bytes-bytes.ensures (search rules) (search rules) (search rules) (search rules) in
    record { result_value = whole.0; page_after = whole.1 }
