-- What is promised of §13's two calls, in the manner of the model's Demands.antt.
use Rattle.std.specs.Prelude.{◌≡◌, ◌≢◌, ℕ, ◌+◌, ◌*◌, ◌/◌, ◌%◌, ◌<◌, Bool, not, ◌&&◌, ◌||◌, List, map, length, T, eqb, leb, ltb}
use Rattle.volume.specs.Bytes.{Bytes, byte_at}
use Rattle.volume.specs.Lists.{any, member}
use Rattle.model.specs.Layout.{page_size, page_count}
use Rattle.model.specs.Entry.{occupied, entries}
use Rattle.model.specs.Version1.{view}
use Rattle.model.specs.Sound.{sound, pages_at, reached_entries}
use Rattle.model.specs.Image.{tree_of}
use Rattle.model.specs.Call.{Call, verdict, Refusal, refusal, refused, granted}
use Rattle.model.specs.Meaning.{answer}
use Rattle.model.specs.Demands.{Results, Runs, Demanded}
use Rattle.moves.specs.Tidy.{place_of, owner_entry, accepted, tidy_answer, tidy_after}
use Rattle.moves.specs.Propose.{is_file_entry, is_directory_entry, propose_answer, propose_after}

-- ---- tidy

-- the new position of the byte at a position: it goes with its page
abbrev pub new_position : List ℕ → ℕ → ℕ
new_position places at = page_size * place_of places (at / page_size) + at % page_size

-- the page of a directory, the root's too
abbrev pub holds_entries : Bytes → (page : ℕ) → Bool
holds_entries b p = eqb p 0 || is_directory_entry (owner_entry b p)

-- Byte i of page p is one of the bitmap's N/8 bytes in use, the link of a file's page, or the start page of an occupied entry of a directory.
abbrev pub is_bits : Bytes → (page i : ℕ) → Bool
is_bits b p i = eqb p 0 && (leb 4 i && ltb i (4 + page_count b / 8))

abbrev pub is_link : Bytes → (page i : ℕ) → Bool
is_link b p i = eqb i 0 && is_file_entry (owner_entry b p)

abbrev pub is_start : Bytes → (page i : ℕ) → Bool
is_start b p i = holds_entries b p && any (λ at. occupied b at && eqb (page_size * p + i) (at + 17)) (entries p)

-- it is one of those that follow
abbrev pub follows : Bytes → (page i : ℕ) → Bool
follows b p i = is_bits b p i || (is_link b p i || is_start b p i)

-- Demand 1: a refusal is the verdict's own, or 28, or 27, in this order.
pub data TidyStops (b places target : Bytes) : Refusal → Type 0 where
  by_verdict : (f : Refusal) → answer verdict b ≡ refused f → TidyStops b places target f
  by_length : T (sound b) → length target ≢ length b → TidyStops b places target (refusal 28)
  by_proposal : T (sound b) → length target ≡ length b → T (not (accepted b places)) → TidyStops b places target (refusal 27)

-- a granted tidy, by what it leaves in the target
pub record Tidied (b places after : Bytes) : Type 0 where
  -- sound, with the same tree, as long as the image
  pub is_sound : T (sound after)
  pub means : tree_of after ≡ tree_of b
  pub long : length after ≡ length b
  -- every entry stands where its page came to, and the pages of every file and directory are where the proposal puts them
  pub reaches : reached_entries after ≡ map (new_position places) (reached_entries b)
  pub placed : (at : ℕ) → T (member at (reached_entries b)) → pages_at (view after) (new_position places at) ≡ map (place_of places) (pages_at (view b) at)
  -- every byte that does not follow is carried along with its page
  pub carried : (p i : ℕ) → p < page_count b → i < page_size → T (not (follows b p i)) → byte_at after (page_size * place_of places p + i) ≡ byte_at b (page_size * p + i)
  -- demand 3 starts afresh from it
  pub afresh : (cs : List Call) (rs : Results cs) (b' : Bytes) → Runs after cs rs b' → Demanded after (tree_of b) cs rs b'

pub record TidyDemand : Type 0 where
  pub refuses : (b places target : Bytes) (f : Refusal) → tidy_answer b places target ≡ refused f
      → TidyStops b places target f × (tidy_after b places target ≡ target)
  -- and it is granted wherever none of the three is there
  pub grants : (b places target : Bytes) → T (sound b) → length target ≡ length b → T (accepted b places) → tidy_answer b places target ≡ granted tt
  pub tidies : (b places target : Bytes) → tidy_answer b places target ≡ granted tt → Tidied b places (tidy_after b places target)

-- ---- propose

pub data ProposeStops (b row : Bytes) : Refusal → Type 0 where
  by_verdict : (f : Refusal) → answer verdict b ≡ refused f → ProposeStops b row f
  by_length : T (sound b) → length row ≢ page_count b → ProposeStops b row (refusal 27)

pub record ProposeDemand : Type 0 where
  pub refuses : (b row : Bytes) (f : Refusal) → propose_answer b row ≡ refused f → ProposeStops b row f × (propose_after b row ≡ row)
  -- granted on every sound image with a row of N numbers, whatever they are, and then the proposal is accepted
  pub grants : (b row : Bytes) → T (sound b) → length row ≡ page_count b → propose_answer b row ≡ granted tt
  pub proposes : (b row : Bytes) → propose_answer b row ≡ granted tt → T (accepted b (propose_after b row))
