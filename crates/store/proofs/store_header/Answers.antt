-- The buffer is a copy of the header page with all pages claimed, and an entry of the root is put into it.
use Rattle.store.proofs.Pages.{copied_long, copied_count, header_long, header_root, header_below}
use native.Mathlib.Omega.{arith}
use mathlib.Core.Path.{◌≡◌}
use lib.ListN.{length}
use borrow.Author.Rules.{rules}
use Rattle.store.proofs.store_header.Goals as goal

pub claim_pages-requires : goal.claim_pages-requires
claim_pages-requires c = (search rules, search copied_long, search copied_count)

pub copy_in-requires : goal.copy_in-requires
copy_in-requires c =
    let paged : length c.claim_pages.new.header ≡ 256 = search header_long in
    omega (arith, c.requires.5 c.if-entry-lt256.true, paged)

pub returns-then-entry-lt256 : goal.returns-then-entry-lt256
returns-then-entry-lt256 c = search header_root

pub returns-else-entry-lt256 : goal.returns-else-entry-lt256
returns-else-entry-lt256 c = search header_below
