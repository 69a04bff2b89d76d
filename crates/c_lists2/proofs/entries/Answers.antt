-- Each arm knows its case, so what `lists2::entries` ensures is the answer in that case, and code and out array are read off it.
use Rattle.fields.proofs.Plain.{ap, ◌∙◌}
use Rattle.codes.specs.Codes.{code_of}
use Rattle.c_lists2.specs.Outs.{entries_out}
use Rattle.c_lists2.proofs.Fits.{entries_fits}
use Rattle.c_lists2.proofs.entries.Goals as goal

pub code-requires : goal.code-requires
unfolding code_of entries_out
code-requires c = entries_fits _ _ _ _ (c.in-Err.ensures.result_value)

pub returns-in-Ok : goal.returns-in-Ok
unfolding code_of entries_out
returns-in-Ok c =
    let told = c in
    let e = rw c.in-Ok.is at told.entries.ensures.result_value in
    record { value = ap code_of e; out_after = ap entries_out e; rows_after = told.entries.ensures.rows_after }

pub returns-in-Err : goal.returns-in-Err
unfolding code_of entries_out
returns-in-Err c =
    let r = c in
    let e = rw r.in-Err.is at r.entries.ensures.result_value in
    record { value = c.code.ensures ∙ ap code_of e; out_after = ap entries_out e; rows_after = r.entries.ensures.rows_after }
