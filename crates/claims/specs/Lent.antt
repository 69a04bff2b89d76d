-- What the parts of the second judge that claim pages are lent, and what their answers mean.
use Rattle.std.specs.Prelude.{◌≡◌, ℕ, ◌+◌, ◌-◌, ◌*◌, ◌≤◌, Bool, true, false, not, List, map, length, if◌then◌else◌}
use Rattle.volume.specs.Bytes.{Bytes}
use Rattle.volume.specs.Lists.{all, count_from}
use Rattle.model.specs.Layout.{page_count}
use Rattle.model.specs.Entry.{entry_count, entries_start, Entry, entry_at}
use Rattle.model.specs.Version1.{view}
use Rattle.model.specs.Sound.{same_name, names_apart}
use Rattle.claims.specs.Claim.{Visited, stops, goes, claim_entries}

-- the row as an answer left it; what a no leaves in it is nobody's concern
abbrev pub outcome : Bool → List ℕ → Visited
outcome true row = goes row
outcome false row = stops

-- an owner for each page of the image; page numbers are bytes, so there are at most 256
pub record Row (b : Bytes) (row : List ℕ) : Type 0 where
  pub each : length row ≡ page_count b
  pub high : length row ≤ 256

-- the position of entry i of the directory on page p, and the positions from entry i on
abbrev pub position : (page i : ℕ) → ℕ
position p i = entries_start p + 32 * i

unfoldable pub rest : (page i : ℕ) → List ℕ
rest p i = map (position p) (count_from i (entry_count p - i))

-- none of the entries at these positions has the name of e
unfoldable pub apart : Bytes → Entry → List ℕ → Bool
apart b e ats = all (λ later. not (same_name e (entry_at b later))) ats

-- no two of the entries at these positions have one name, and they claim their pages
unfoldable pub entered : Bytes → (ats row : List ℕ) → Visited
entered b ats row = let claimed = claim_entries b ats row in if names_apart (view b) ats then claimed else stops
