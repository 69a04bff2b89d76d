-- The text ends at the first slash that `position` finds, and with the path where it finds none.
use Rattle.std.proofs.Common.{length-drop}
use Rattle.fields.proofs.Plain.{◌≡◌, ◌∙◌, rules, tests, arith, drop}
use mathlib.Core.Logic.{◌≢◌}
use Rattle.std.proofs.lemmas.Iterator.{IsFirst-from_position, YieldsList-from_slice}
use Rattle.names.proofs.Steps.{part_to_end, text_to, text_whole}
use Rattle.names.proofs.text_end.Goals as goal

pub returns-in-Some : goal.returns-in-Some
returns-in-Some c =
    let rest = drop c.args.from c.args.path.now in
    let found = IsFirst-from_position _ _ c.position.result (λ x. x ≡ 47) (λ x. x ≢ 47) c.position.ensures.ran (YieldsList-from_slice rest (c.iter.ensures.rest ∙ part_to_end c.args.from c.args.path.now)) (λ x q k. search (rules, tests)) (λ x q k. search (rules, tests)) in
    let n = text_to rest _ found c.in-Some.k c.in-Some.is in
    let long = length-drop c.args.from c.args.path.now in
    (omega (arith, n), omega (arith, n, long, c.in-Some.ensures.bound))

pub returns-in-None : goal.returns-in-None
returns-in-None c =
    let rest = drop c.args.from c.args.path.now in
    let found = IsFirst-from_position _ _ c.position.result (λ x. x ≡ 47) (λ x. x ≢ 47) c.position.ensures.ran (YieldsList-from_slice rest (c.iter.ensures.rest ∙ part_to_end c.args.from c.args.path.now)) (λ x q k. search (rules, tests)) (λ x q k. search (rules, tests)) in
    let n = text_whole rest _ found c.in-None.is in
    let long = length-drop c.args.from c.args.path.now in
    (omega (arith, n, long), omega arith)
