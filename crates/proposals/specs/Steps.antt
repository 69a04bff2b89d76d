-- What the parts of the two calls are lent and what they answer; no public contract cites it.
use Rattle.std.specs.Prelude.{◌≡◌, ℕ, suc, ◌*◌, ◌<◌, Bool, true, false, ◌&&◌, ◌||◌, List, [], ◌∷◌, map, length, get_or, set, T, eqb, ltb, if◌then◌else◌}
use Rattle.volume.specs.Bytes.{Bytes}
use Rattle.volume.specs.Lists.{count_from}
use Rattle.model.specs.Layout.{page_count, page_bit, link}
use Rattle.model.specs.Sound.{sound}
use Rattle.audit.specs.Owner.{owner_numbers}
use Rattle.moves.specs.Tidy.{place_of, owner_entry, bits_of}
use Rattle.moves.specs.Propose.{is_file_entry, is_other}

-- a sound image and the owners of its pages, as the second judge tells them
pub record Judged (b : Bytes) (owners : List ℕ) : Type 0 where
  pub is_sound : T (sound b)
  pub named : owners ≡ owner_numbers b

-- every number is below the length of `seen`, has no mark there and stands once
unfoldable pub takes : (places seen : List ℕ) → Bool
takes [] seen = true
takes (q ∷ qs) seen = let rest = takes qs (set seen q 1) in if ltb q (length seen) && eqb (get_or seen q 0) 0 then rest else false

-- page p is the last of its chain, or its link leads to the page with the next number
unfoldable pub link_leads : Bytes → List ℕ → (page : ℕ) → Bool
link_leads b places p = eqb (link b p) 0 || eqb (place_of places (link b p)) (suc (place_of places p))

-- the same of a file's page alone (law `near_all`: so the pages of each file get rising neighbouring numbers)
unfoldable pub leads_on : Bytes → List ℕ → (page : ℕ) → Bool
leads_on b places p = if is_file_entry (owner_entry b p) then link_leads b places p else true

-- a page of the image for each place
pub record Pages (b : Bytes) (pages : List ℕ) : Type 0 where
  pub each : length pages ≡ page_count b
  pub low : (q : ℕ) → get_or pages q 0 < page_count b

-- bitmap byte k, by the pages of its places
unfoldable pub bits_at : Bytes → (pages : List ℕ) (k : ℕ) → ℕ
bits_at b pages k = bits_of (map (λ q. page_bit b (get_or pages q 0)) (count_from (8 * k) 8))

-- the bytes of a directory's page before its entries: the header's fields
abbrev pub field_bytes : (page : ℕ) → ℕ
field_bytes p = if eqb p 0 then 64 else 0

-- page p, if no file owns it
unfoldable pub other_at : Bytes → (page : ℕ) → List ℕ
other_at b p = if is_other b p then p ∷ [] else []
