-- Each arm knows its case, so what the call ensures is the model's answer in that case, and code and out arrays are read off it.
use Rattle.fields.proofs.Plain.{ap, ◌∙◌}
use Rattle.model.specs.Call.{verdict}
use Rattle.codes.specs.Codes.{code_of}
use Rattle.codes.specs.Outs.{verdict_out}
use Rattle.codes.proofs.Fits.{refused_fits, roomy1}
use Rattle.c_looks.proofs.verdict.Goals as goal

pub code-requires : goal.code-requires
code-requires c = refused_fits roomy1 verdict _ c.in-Err.ensures

pub returns-in-Ok : goal.returns-in-Ok
unfolding code_of verdict_out
returns-in-Ok c = let e = c.in-Ok.ensures in record { value = ap code_of e; out_after = ap verdict_out e }

pub returns-in-Err : goal.returns-in-Err
unfolding code_of verdict_out
returns-in-Err c = let e = c.in-Err.ensures in record { value = c.code.ensures ∙ ap code_of e; out_after = ap verdict_out e }
