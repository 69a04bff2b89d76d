-- Each arm knows its case, so what the call ensures is the link list's answer in that case, and code and out array are read off it.
use Rattle.fields.proofs.Plain.{ap, ◌∙◌}
use Rattle.link_list.specs.Links.{find_link}
use Rattle.link_codes.specs.Codes.{link_code_of}
use Rattle.link_codes.proofs.Fits.{link_fits}
use Rattle.codes.specs.Outs.{figure_out}
use Rattle.c_links.proofs.find.Goals as goal

pub code-requires : goal.code-requires
unfolding link_code_of figure_out
code-requires c = link_fits (find_link _ _ _) _ (c.in-Err.ensures)

pub returns-in-Ok-Some : goal.returns-in-Ok-Some
unfolding link_code_of figure_out
returns-in-Ok-Some c =
    let e = rw c.in-Ok-Some.field-0-is at c.in-Ok-Some.ensures in
    record { value = ap link_code_of e; out_after = ap figure_out e }

pub returns-in-Ok-None : goal.returns-in-Ok-None
unfolding link_code_of figure_out
returns-in-Ok-None c =
    let e = rw c.in-Ok-None.field-0-is at c.in-Ok-None.ensures in
    record { value = ap link_code_of e; out_after = ap figure_out e }

pub returns-in-Err : goal.returns-in-Err
unfolding link_code_of figure_out
returns-in-Err c =
    let e = c.in-Err.ensures in
    record { value = c.code.ensures ∙ ap link_code_of e; out_after = ap figure_out e }
