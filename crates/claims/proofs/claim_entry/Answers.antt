-- `claim_entry` goes by the kind of the entry, as the definition does.
use Rattle.claims.proofs.Claims.{vacant_claims, file_unnamed, file_claims, directory_unnamed, directory_unsized, directory_claims}
use Rattle.claims.proofs.claim_entry.Goals as goal

pub returns-then-not-name_is_legal : goal.returns-then-not-name_is_legal
returns-then-not-name_is_legal c = search file_unnamed

pub returns-then-not-name_is_legal-2 : goal.returns-then-not-name_is_legal-2
returns-then-not-name_is_legal-2 c = search directory_unnamed

pub returns-then-size-ne256 : goal.returns-then-size-ne256
returns-then-size-ne256 c = search directory_unsized

pub returns-in-Vacant : goal.returns-in-Vacant
returns-in-Vacant c = search vacant_claims

pub returns-else-not-name_is_legal : goal.returns-else-not-name_is_legal
returns-else-not-name_is_legal c = search file_claims

pub returns-else-size-ne256 : goal.returns-else-size-ne256
returns-else-size-ne256 c = search directory_claims
