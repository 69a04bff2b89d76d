-- What the walk over a sound image is lent and what it leaves; no public contract cites it.
use Rattle.std.specs.Prelude.{◌≡◌, ℕ, ◌+◌, List, [], ◌∷◌, ◌++◌, length, take, replicate}
use Rattle.volume.specs.Bytes.{Bytes}
use Rattle.model.specs.Entry.{entry_at}
use Rattle.model.specs.Sound.{in_directory}
use Rattle.claims.specs.Claim.{Visited, goes}

-- a part of the visit that says yes: it leaves a row
pub record SaysYes (v : Visited) : Type 0 where
  pub row : List ℕ
  pub is : goes row ≡ v

-- the page of the directory whose entry stands at this position, and nothing for any other entry
unfoldable pub directory_at : Bytes → (at : ℕ) → List ℕ
directory_at b at = in_directory [] (λ s. s ∷ []) (entry_at b at)

-- the directories ds were put behind the first `end` of the list
pub record Pushed (ds list : List ℕ) (end : ℕ) (list' : List ℕ) (end' : ℕ) : Type 0 where
  pub counted : end' ≡ end + length ds
  pub held : take end' list' ≡ take end list ++ ds

-- 256 zeros: nobody owns a page
unfoldable pub no_owners : List ℕ
no_owners = replicate 256 0
