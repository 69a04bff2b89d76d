-- Each arm knows its case, so what the call ensures is the link list's answer in that case, and code and out array are read off it.
use Rattle.fields.proofs.Plain.{ap, ◌∙◌}
use Rattle.link_list.specs.Links.{read_links}
use Rattle.link_codes.specs.Codes.{link_code_of}
use Rattle.link_codes.proofs.Fits.{link_fits}
use Rattle.codes.specs.Outs.{number_out}
use Rattle.c_links.proofs.read.Goals as goal

pub code-requires : goal.code-requires
unfolding link_code_of number_out
code-requires c = link_fits (read_links _ _) _ (c.in-Err.ensures.result_value)

pub returns-in-Ok : goal.returns-in-Ok
unfolding link_code_of number_out
returns-in-Ok c =
    let e = c.in-Ok.ensures.result_value in
    record { value = ap link_code_of e; out_after = ap number_out e; numbers_after = c.in-Ok.ensures.numbers_after }

pub returns-in-Err : goal.returns-in-Err
unfolding link_code_of number_out
returns-in-Err c =
    let e = c.in-Err.ensures.result_value in
    record { value = c.code.ensures ∙ ap link_code_of e; out_after = ap number_out e; numbers_after = c.in-Err.ensures.numbers_after }
