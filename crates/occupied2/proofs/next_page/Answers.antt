-- `next_page` answers the page that the link names, unless it is 0 or the pages are used up: the row behind is that page's and of those behind it.
use Rattle.fields.proofs.Plain.{rules, refl, sym, ◌∙◌}
use Rattle.rows2.proofs.On.{some_entry}
use Rattle.cursor2.proofs.Turns.{behind_end, behind_none, pages_next}
use Rattle.occupied2.proofs.Walking.{link_lies, others_none, others_next}
use Rattle.occupied2.proofs.next_page.Goals as goal

pub link-page-requires : goal.link-page-requires
link-page-requires c = link_lies c.requires.1

pub returns-then-page-eq0 : goal.returns-then-page-eq0
returns-then-page-eq0 c = (others_none _ _ _ _ _ (behind_end _ _ _ (sym c.link-page.ensures ∙ c.if-page-eq0.true)), tt, tt)

pub returns-then-left-eq0 : goal.returns-then-left-eq0
returns-then-left-eq0 c = (others_none _ _ _ _ _ (behind_none _ _ _ c.if-left-eq0.true), tt, tt)

pub returns : goal.returns
returns c = (
  others_next _ _ _ _ _ _ c.if-left-eq0.false c.link-page.ensures c.if-page-eq0.false,
  record {
    within = some_entry c.requires.0 c.link-page.result.0;
    pages = pages_next c.args.shape c.args.image.now _ _ _ c.if-left-eq0.false c.link-page.ensures c.if-page-eq0.false c.requires.1.pages;
  },
  (search rules, refl),
)
