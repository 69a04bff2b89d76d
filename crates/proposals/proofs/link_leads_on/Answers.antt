-- The link is 0, or past the row, where the definition reads 0 and no number is one more, or leads to a number that is compared.
use lib.Dec.{eqb}
use Rattle.proposals.proofs.Check.{leads_zero, leads_past, leads_next}
use mathlib.Core.Path.{sym, ap, ◌∙◌, ap₂}
use Prim.Native.Nat.{ℕ, ◌+◌}
use native.Mathlib.Omega.{arith}
use lib.ListN.{get_or}
use Rattle.proposals.proofs.link_leads_on.Goals as goal

pub returns-then-next-eq0 : goal.returns-then-next-eq0
returns-then-next-eq0 c = leads_zero _ _ _ (sym c.link-link.ensures.0 ∙ c.if-next-eq0.true)

pub returns-then-next-places : goal.returns-then-next-places
returns-then-next-places c =
    let if1 = c in
    let link = if1 in
    leads_past _ _ _ (λ e. if1.if-next-eq0.false (link.link-link.ensures.0 ∙ e)) (omega (arith, link.link-link.ensures.0, c.if-next-places.true))

pub returns : goal.returns
returns c =
    let from = c in
    let if1 = from in
    let link = if1 in
    let start = link in
    ap₂ (λ (x y : ℕ). eqb x (y + 1)) (from.from.ensures ∙ ap (λ (i : ℕ). get_or start.args.places.now i 0)
    link.link-link.ensures.0) c.from-2.ensures ∙ leads_next _ _ _ (λ e. if1.if-next-eq0.false (link.link-link.ensures.0 ∙ e))
