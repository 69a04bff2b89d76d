-- `tidy_judged` asks the check, and then writes.
use Rattle.model.specs.Layout.{page_count}
use Rattle.judge.proofs.Image.{marks_length}
use Rattle.claims.proofs.Claims.{told, untold}
use Rattle.moves.proofs.Answers.{tidy_unaccepted, tidy_accepted}
use Rattle.moves.proofs.Places.{accepted_is}
use Rattle.proposals.proofs.Owned.{fits, sized}
use Rattle.proposals.proofs.Check.{true_of, of_true}
use mathlib.Core.Path.{◌≡◌, sym, ◌∙◌}
use native.Mathlib.Omega.{arith}
use lib.ListN.{length}
use Rattle.tidy.proofs.tidy_judged.Goals as goal

pub returns-then-not-is_accepted : goal.returns-then-not-is_accepted
returns-then-not-is_accepted c =
    let is-accepted = c in
    let start = is-accepted in
    let whole = tidy_unaccepted _ _ _ start.requires.0.is_sound start.requires.1 (untold is-accepted.is_accepted.ensures c.if-not-is_accepted.true-raw) in
    record { result_value = whole.0; target_after = whole.1 }

pub slice_bounds-pages-end : goal.slice_bounds-pages-end
slice_bounds-pages-end c =
    let is-accepted = c in
    let start = is-accepted in
    let s = sized start.requires.0 in
    let m : length start.args.places.now ≡ page_count start.args.image.now = (accepted_is _ _
    (of_true (told is-accepted.is_accepted.ensures c.if-not-is_accepted.false-raw))).many in
    omega (arith, s.high)

pub slice_bounds-write_moved-end : goal.slice_bounds-write_moved-end
slice_bounds-write_moved-end c =
    let if1 = c in
    let is-accepted = if1 in
    let start = is-accepted in
    let m : length start.args.places.now ≡ page_count start.args.image.now = (accepted_is _ _
    (of_true (told is-accepted.is_accepted.ensures if1.if-not-is_accepted.false-raw))).many in
    marks_length start.args.image.now _ m (true_of (fits start.requires.0))

pub write_moved-requires : goal.write_moved-requires
write_moved-requires c =
    let if1 = c in
    let is-accepted = if1 in
    let start = is-accepted in
    let t = of_true (told is-accepted.is_accepted.ensures if1.if-not-is_accepted.false-raw) in
    let m : length start.args.places.now ≡ page_count start.args.image.now = (accepted_is _ _ t).many in
    (start.requires.0, t, sym (marks_length start.args.image.now _ m (true_of (fits start.requires.0))) ∙ m, start.requires.1)

pub returns : goal.returns
returns c =
    let write-moved = c in
    let if1 = write-moved in
    let is-accepted = if1 in
    let start = is-accepted in
    let r = tidy_accepted start.args.image.now start.args.places.now start.args.target.now
    start.requires.0.is_sound start.requires.1 (told is-accepted.is_accepted.ensures if1.if-not-is_accepted.false-raw) in
    record { result_value = r.0; target_after = write-moved.write_moved.ensures ∙ r.1 }
