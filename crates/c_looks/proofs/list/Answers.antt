-- Each arm knows its case, so what the call ensures is the model's answer in that case, and code and out arrays are read off it.
use Rattle.fields.proofs.Plain.{ap, ◌∙◌}
use Rattle.model.specs.Call.{list}
use Rattle.arrivals.specs.Beside.{list_name, list_date}
use Rattle.codes.specs.Codes.{code_of}
use Rattle.codes.specs.Outs.{list_out}
use Rattle.codes.proofs.Fits.{refused_fits, roomy1}
use Rattle.c_looks.proofs.list.Goals as goal

pub code-requires : goal.code-requires
code-requires c = refused_fits roomy1 (list _ _) _ c.in-Err.ensures

pub returns-in-Ok-Some : goal.returns-in-Ok-Some
unfolding code_of list_name list_date
returns-in-Ok-Some c =
    let e = rw c.in-Ok-Some.field-0-is at c.in-Ok-Some.ensures in
    record { value = ap code_of e; out_after = c.listed_numbers-numbers.ensures ∙ ap list_out e; name_after = ap list_name e; date_after = ap list_date e }

pub returns-in-Ok-None : goal.returns-in-Ok-None
unfolding code_of list_out list_name list_date
returns-in-Ok-None c =
    let e = rw c.in-Ok-None.field-0-is at c.in-Ok-None.ensures in
    record { value = ap code_of e; out_after = ap list_out e; name_after = ap list_name e; date_after = ap list_date e }

pub returns-in-Err : goal.returns-in-Err
unfolding code_of list_out list_name list_date
returns-in-Err c =
    let e = c.in-Err.ensures in
    record { value = c.code.ensures ∙ ap code_of e; out_after = ap list_out e; name_after = ap list_name e; date_after = ap list_date e }
