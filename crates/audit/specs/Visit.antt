-- The second judge's way (paper 02 §8), for the contracts of its parts; no public contract cites it. It keeps the directories still to be
-- visited and a row of owners, one a page: 0 nobody, 1 the header, else the position of the owner's entry. It shares no definition with `Judge`.
use Rattle.std.specs.Prelude.{ℕ, zero, suc, ◌+◌, ◌-◌, ◌&&◌, List, [], ◌∷◌, ◌++◌, length, replicate, if◌then◌else◌}
use Rattle.volume.specs.Bytes.{Bytes}
use Rattle.model.specs.Layout.{page_count, valid_length, valid_header}
use Rattle.model.specs.Entry.{entries}
use Rattle.model.specs.Version1.{view}
use Rattle.model.specs.Sound.{names_apart}
use Rattle.claims.specs.Claim.{Visited, stops, goes, then_visit, claim_entries, directories_at}
use Rattle.agreement.specs.Marked.{is_marked}

-- how many pages nobody owns
unfoldable pub free : List ℕ → ℕ
free [] = 0
free (owner ∷ row) = 1 - owner + free row

-- Directories are visited in the order in which they are found, at most so many. Every directory has a page of its own, so N is enough.
unfoldable pub visit : (most : ℕ) → Bytes → (pending row : List ℕ) → Visited
visit zero b [] row = goes row
visit zero b (d ∷ ds) row = stops
visit (suc most) b [] row = goes row
visit (suc most) b (d ∷ ds) row =
    let claimed = then_visit (claim_entries b (entries d) row) (visit most b (ds ++ directories_at b (entries d))) in
    if names_apart (view b) (entries d) then claimed else stops

unfoldable pub concluded : Bytes → Visited → Visited
concluded b stops = stops
concluded b (goes row) = if is_marked b row then goes row else stops

abbrev pub first_row : ℕ → List ℕ
first_row n = 1 ∷ replicate (n - 1) 0

unfoldable pub audit : Bytes → Visited
audit b =
    let visited = concluded b (visit (page_count b) b (0 ∷ []) (first_row (page_count b))) in
    if valid_length (length b) && valid_header b then visited else stops
