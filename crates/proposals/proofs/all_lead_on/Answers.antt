-- `all_lead_on` looks at one page a turn.
use Rattle.model.specs.Layout.{page_count}
use Rattle.claims.proofs.Claims.{told, untold}
use Rattle.proposals.proofs.Numbers.{all_pages, all_goes, all_stops}
use mathlib.Core.Path.{sym, ◌∙◌}
use Prim.Native.Nat.{◌<◌, ◌≤◌}
use native.Mathlib.Omega.{arith}
use Rattle.proposals.proofs.all_lead_on.Goals as goal

pub leads_on-requires : goal.leads_on-requires
leads_on-requires c =
    let turn = c in
    let start = turn in
    (start.requires.0, turn.loop-p.invariant.0, omega arith, start.requires.1)

pub returns-then-not-leads_on : goal.returns-then-not-leads_on
returns-then-not-leads_on c =
    let leads-on = c in
    let turn = leads-on in
    let start = turn in
    let l : turn.loop-p.p < page_count start.args.image.now = omega arith in
    sym (turn.loop-p.invariant.2 ∙ all_stops _ _ _ l (untold leads-on.leads_on.ensures c.if-not-leads_on.true-raw))

pub loop-p-preserved : goal.loop-p-preserved
loop-p-preserved c =
    let leads-on = c in
    let turn = leads-on in
    let start = turn in
    let l : turn.loop-p.p < page_count start.args.image.now = omega arith in
    (omega arith, turn.loop-p.invariant.1, turn.loop-p.invariant.2 ∙ all_goes _ _ _ l (told leads-on.leads_on.ensures c.if-not-leads_on.false-raw))

pub returns : goal.returns
returns c =
    let turn = c in
    let start = turn in
    let l : page_count start.args.image.now ≤ turn.loop-p.p = omega arith in
    sym (turn.loop-p.invariant.2 ∙ all_pages _ _ _ l)
