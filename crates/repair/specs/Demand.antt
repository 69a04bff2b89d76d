-- What is promised of a repair (paper 02 §7), in the manner of the model's Demands.antt.
use Rattle.std.specs.Prelude.{◌≡◌, ◌≢◌, ℕ, ◌+◌, ◌/◌, ◌≤◌, List, [], ◌∷◌, length, T}
use Rattle.volume.specs.Bytes.{Bytes, byte_at}
use Rattle.volume.specs.Lists.{member}
use Rattle.model.specs.Layout.{page_count}
use Rattle.model.specs.Sound.{sound}
use Rattle.model.specs.Image.{tree_of}
use Rattle.model.specs.Call.{Call, verdict, Refusal, refused, granted}
use Rattle.model.specs.Meaning.{answer}
use Rattle.model.specs.Demands.{Results, Runs, Demanded}
use Rattle.repair.specs.Repair.{repair_answer, repair_after}

-- the numbers that stop a repair; 19 and 3, which the verdict may also give, are what it mends
abbrev pub unmendable : List ℕ
unmendable = 1 ∷ 2 ∷ 16 ∷ 17 ∷ 18 ∷ 20 ∷ []

-- Demand 1: a refusal is the one that the verdict gives, number and place, and nothing changes.
pub record Refuses (b : Bytes) (f : Refusal) : Type 0 where
  pub image : repair_after b ≡ b
  pub told : answer verdict b ≡ refused f
  pub numbered : T (member f.number unmendable)

-- a granted repair: the result is sound and has the same tree, no byte changed but 3 and the bitmap's in use, and demand 3 starts afresh from it
pub record Mends (b : Bytes) : Type 0 where
  pub is_sound : T (sound (repair_after b))
  pub means : tree_of (repair_after b) ≡ tree_of b
  pub long : length (repair_after b) ≡ length b
  pub rest : (i : ℕ) → i ≢ 3 → (4 ≤ i → 4 + page_count b / 8 ≤ i) → byte_at (repair_after b) i ≡ byte_at b i
  pub afresh : (cs : List Call) (rs : Results cs) (b' : Bytes) → Runs (repair_after b) cs rs b' → Demanded (repair_after b) (tree_of b) cs rs b'

-- what it is granted on: a sound image, or one that the verdict refuses with 19 or 3
pub data Mendable (b : Bytes) : Type 0 where
  is_sound : T (sound b) → Mendable b
  by_number : (f : Refusal) → answer verdict b ≡ refused f → T (member f.number (19 ∷ 3 ∷ [])) → Mendable b

pub record RepairDemand : Type 0 where
  pub refuses : (b : Bytes) (f : Refusal) → repair_answer b ≡ refused f → Refuses b f
  -- and what the verdict refuses so, repair does
  pub refuses_alike : (b : Bytes) (f : Refusal) → answer verdict b ≡ refused f → T (member f.number unmendable) → repair_answer b ≡ refused f
  pub grants : (b : Bytes) → Mendable b → repair_answer b ≡ granted tt
  pub mends : (b : Bytes) → repair_answer b ≡ granted tt → Mends b
  -- a sound image stays as it is, and so does a repaired one
  pub unchanged : (b : Bytes) → T (sound b) → repair_after b ≡ b
  pub again : (b : Bytes) → repair_after (repair_after b) ≡ repair_after b
