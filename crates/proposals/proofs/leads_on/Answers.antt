-- `leads_on` goes by the kind of the owner's entry, as the definition does.
use Rattle.proposals.proofs.Owned.{kind, leads_of}
use mathlib.Core.Path.{◌∙◌}
use Rattle.proposals.proofs.leads_on.Goals as goal

pub returns-in-Vacant : goal.returns-in-Vacant
returns-in-Vacant c = leads_of _ _ _ (kind _ _ _ c.owner_entry.ensures.0 c.in-Vacant.is)

pub returns-in-File : goal.returns-in-File
returns-in-File c =
    let start = c in
    let owner_entry_lem = start in
    c.link_leads_on.ensures ∙ leads_of _ _ _ (kind _ _ _ owner_entry_lem.owner_entry.ensures.0 start.in-File.is)

pub returns-in-Directory : goal.returns-in-Directory
returns-in-Directory c = leads_of _ _ _ (kind _ _ _ c.owner_entry.ensures.0 c.in-Directory.is)
