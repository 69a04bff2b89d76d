-- The copy has the image's bytes, and what came of it is the image after all of it.
use Rattle.outcomes.proofs.Exits.{told_on}
use Rattle.link_anew.proofs.InTurn.{copy_refused, copy_done}
use native.Mathlib.Omega.{arith}
use Rattle.link_anew.proofs.put_by_copy.Goals as goal

pub returns-in_err-put_in_turn : goal.returns-in_err-put_in_turn
returns-in_err-put_in_turn c =
    let args = c.args in
    let whole = copy_refused args.path.now args.date.now args.bytes.now args.image.now args.copy.now c.copy_in.new.part c.put_in_turn.new.image c.requires c.copy_in.ensures _ c.in_err-put_in_turn.ensures.runs_to in
    record { result_value = told_on _ _ _ _ c.from_residual.ensures.1 whole.0; image_after = whole.1 }

pub returns : goal.returns
returns c =
    let args = c.args in
    let whole = copy_done args.path.now args.date.now args.bytes.now args.image.now args.copy.now c.copy_in.new.part c.put_in_turn.new.image c.requires c.copy_in.ensures c.in_ok-put_in_turn.ensures.runs_to _ (omega (arith, c.put_in_turn.auto.image, c.copy_in.auto.part, c.requires)) c.copy_in-2.ensures in
    record { result_value = whole.0; image_after = whole.1 }
