-- Each arm knows its case, so what the call ensures is the model's answer in that case, and code and out array are read off it.
use Rattle.model.specs.Call.{store}
use Rattle.codes.specs.Codes.{code_of}
use Rattle.codes.specs.Outs.{number_out}
use Rattle.codes.proofs.Fits.{refused_fits, roomy1}
use mathlib.Core.Path.{ap, ◌∙◌}
use Rattle.c_requests.proofs.store.Goals as goal

pub code-requires : goal.code-requires
code-requires c = refused_fits roomy1 (store _ _ _ _ _) _ c.in-Err.ensures.result_value

pub returns-in-Ok : goal.returns-in-Ok
unfolding code_of number_out
returns-in-Ok c =
    let e = c.in-Ok.ensures.result_value in
    record { value = ap code_of e; out_after = ap number_out e; page_after = c.in-Ok.ensures.page_after }

pub returns-in-Err : goal.returns-in-Err
unfolding code_of number_out
returns-in-Err c =
    let e = c.in-Err.ensures.result_value in
    record { value = c.code.ensures ∙ ap code_of e; out_after = ap number_out e; page_after = c.in-Err.ensures.page_after }
