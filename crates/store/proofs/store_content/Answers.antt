-- The buffer is a copy of the header on which the pages before are claimed, then this one: the page claimed is store j's, and the next free one is its link.
use Rattle.store.proofs.Pages.{image_long, fewer_free, copied_long, copied_count, content_long, content_counted, content_page_lem, third_long, link_is, link_small, content_linked, begins_in}
use mathlib.Core.Path.{◌≡◌}
use lib.ListN.{length}
use Rattle.volume.specs.Bytes.{part}
use Rattle.model.specs.Layout.{page_count, pages_for}
use Rattle.store_laws.specs.Claim.{page_after, link_after}
use borrow.Author.Rules.{rules}
use Rattle.store.proofs.store_content.Goals as goal

pub claim_pages-requires : goal.claim_pages-requires
claim_pages-requires c = (search rules, search (copied_long, image_long), search (copied_count, image_long, fewer_free))

pub claim_lowest-here-requires : goal.claim_lowest-here-requires
claim_lowest-here-requires c = (search rules, search content_long, search content_counted)

pub fill_content-requires : goal.fill_content-requires
fill_content-requires c =
    let linked : (let s = c.args in c.next_link-link.result.0 ≡ link_after (page_count s.image.now) (pages_for (length s.content.now)) s.j (part 0 256 s.image.now)) = search link_is in
    let paged : length c.claim_lowest-here.new.header ≡ 256 = search third_long in
    (paged, link_small _ c.requires.0 linked, search begins_in, search rules)

pub returns : goal.returns
returns c =
    let linked : (let s = c.args in c.next_link-link.result.0 ≡ link_after (page_count s.image.now) (pages_for (length s.content.now)) s.j (part 0 256 s.image.now)) = search link_is in
    let found : (let s = c.args in c.claim_lowest-here.result.0 ≡ page_after (page_count s.image.now) s.j (part 0 256 s.image.now)) = search content_page_lem in
    record { result_value = found; buffer_after = content_linked _ _ c.fill_content.ensures linked }
