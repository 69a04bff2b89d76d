-- What is promised of the second judge (paper 02 §8), in the manner of the model's Demands.antt. `audit` answers `sound` and `owner_numbers`.
use Rattle.std.specs.Prelude.{◌≡◌, ℕ, ◌≤◌, ◌<◌, Bool, true, false, not, [], ◌∷◌, length, get_or, replicate, T}
use Rattle.volume.specs.Bytes.{Bytes}
use Rattle.volume.specs.Lists.{member}
use Rattle.model.specs.Layout.{page_count, page_bit}
use Rattle.model.specs.Version1.{view}
use Rattle.model.specs.Sound.{sound, pages_at, reached_entries, owners}
use Rattle.model.specs.Call.{verdict, Answer, refused, granted}
use Rattle.model.specs.Meaning.{answer}
use Rattle.audit.specs.Owner.{Owner, nobody, header, entry, owner_row}

abbrev pub is_granted : {A : Type 0} → Answer A → Bool
is_granted (refused f) = false
is_granted (granted x) = true

-- what the row says of page p, one of 1 to N − 1: nobody, and it is free; or the entry of the one file or directory that owns it, and it is marked
pub data Named (b : Bytes) (p : ℕ) : Owner → Type 0 where
  is_free : page_bit b p ≡ 0 → owners b p ≡ [] → Named b p nobody
  is_owned : (at : ℕ) → page_bit b p ≡ 1 → owners b p ≡ at ∷ [] → T (member at (reached_entries b)) → T (member p (pages_at (view b) at)) → Named b p (entry at)

pub record AuditDemand : Type 0 where
  -- it says sound exactly when the first judge does
  pub alike : (b : Bytes) → sound b ≡ is_granted (answer verdict b)
  -- one owner for each of 256 pages; no entry lies at 0 or 1, so their numbers tell nobody, the header and the entries apart
  pub long : (b : Bytes) → length (owner_row b) ≡ 256
  pub apart : (b : Bytes) (at : ℕ) → T (member at (reached_entries b)) → 64 ≤ at
  -- on a sound image the header, the entry that owns the page, or nobody; nobody past N
  pub first : (b : Bytes) → T (sound b) → get_or (owner_row b) 0 nobody ≡ header
  pub pages : (b : Bytes) → T (sound b) → (p : ℕ) → 1 ≤ p → p < page_count b → Named b p (get_or (owner_row b) p nobody)
  pub past : (b : Bytes) → T (sound b) → (p : ℕ) → page_count b ≤ p → get_or (owner_row b) p nobody ≡ nobody
  -- of any other it names nobody
  pub unsound : (b : Bytes) → T (not (sound b)) → owner_row b ≡ replicate 256 nobody
