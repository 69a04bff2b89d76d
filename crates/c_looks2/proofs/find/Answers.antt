-- Each arm knows its case, so what the call ensures is the model's answer in that case, and code and out arrays are read off it.
use Rattle.fields.proofs.Plain.{ap, ◌∙◌}
use Rattle.model.specs.Call.{find}
use Rattle.arrivals.specs.Beside.{find_date}
use Rattle.codes.specs.Codes.{code_of}
use Rattle.codes.specs.Outs.{find_out}
use Rattle.codes.proofs.Fits.{refused_fits}
use Rattle.codes2.proofs.Fits.{roomy2}
use Rattle.c_looks2.proofs.find.Goals as goal

pub code-requires : goal.code-requires
code-requires c = refused_fits roomy2 (find _) _ c.in-Err.ensures

pub returns-in-Ok : goal.returns-in-Ok
unfolding code_of find_date
returns-in-Ok c =
    let e = c.in-Ok.ensures in
    record { value = ap code_of e; out_after = c.found_numbers-numbers.ensures ∙ ap find_out e; date_after = ap find_date e }

pub returns-in-Err : goal.returns-in-Err
unfolding code_of find_out find_date
returns-in-Err c =
    let e = c.in-Err.ensures in
    record { value = c.code.ensures ∙ ap code_of e; out_after = ap find_out e; date_after = ap find_date e }
