-- What an entry of a directory claims (paper 02 §8), for the contracts of the second judge's parts; no public contract cites it. A row has an owner
-- for each page: 0 nobody, 1 the header, else the position of the owner's entry. It shares no definition with `Judge`.
use Rattle.std.specs.Prelude.{ℕ, zero, suc, ◌&&◌, length, get_or, set, eqb, ltb, if◌then◌else◌}
use mathlib.Core.List.{List, [], ◌∷◌, flat_map}
use Rattle.volume.specs.Bytes.{Bytes}
use Rattle.model.specs.Layout.{pages_for, link}
use Rattle.model.specs.Name.{legal_name}
use Rattle.model.specs.Entry.{Entry, vacant, a_file, a_directory, entry_at}
use Rattle.model.specs.Sound.{in_directory}

-- the owners so far, or no
pub data Visited : Type 0 where
  stops : Visited
  goes : List ℕ → Visited

unfoldable pub then_visit : Visited → (List ℕ → Visited) → Visited
then_visit stops on = stops
then_visit (goes row) on = on row

-- Page p gets an owner. The header has page 0 from the start, so no entry gets it.
unfoldable pub claim : (at p : ℕ) → List ℕ → Visited
claim at p row = if ltb p (length row) && eqb (get_or row p 0) 0 then goes (set row p at) else stops

-- k pages from p on, behind the last of which stands 0
unfoldable pub claim_chain : Bytes → (at k p : ℕ) → List ℕ → Visited
claim_chain b at zero p row = if eqb p 0 then goes row else stops
claim_chain b at (suc k) p row = then_visit (claim at p row) (claim_chain b at k (link b p))

unfoldable pub claim_entry : Bytes → (at : ℕ) → Entry → List ℕ → Visited
claim_entry b at vacant row = goes row
claim_entry b at (a_file locked name date start size) row = let claimed = claim_chain b at (pages_for size) start row in if legal_name name then claimed else stops
claim_entry b at (a_directory name date start size) row = let claimed = claim at start row in if legal_name name && eqb size 0x0100 then claimed else stops

unfoldable pub claim_entries : Bytes → (ats row : List ℕ) → Visited
claim_entries b [] row = goes row
claim_entries b (at ∷ ats) row = then_visit (claim_entry b at (entry_at b at) row) (claim_entries b ats)

-- the pages of the directories among the entries at these positions
unfoldable pub directories_at : Bytes → List ℕ → List ℕ
directories_at b ats = flat_map (λ at. in_directory [] (λ s. s ∷ []) (entry_at b at)) ats
