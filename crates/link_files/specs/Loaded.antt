-- The bytes of LINKS as a loading answers them (paper 02 §4).
use Rattle.std.specs.Prelude.{◌≡◌, ◌⊎◌, ℕ, ◌≤◌, ◌<◌, ◌++◌, take, Result, Ok, Err}
use Rattle.volume.specs.Bytes.{Bytes}
use Rattle.model.specs.Image.{tree_of}
use Rattle.model.specs.Call.{Answer, refused, granted}
use Rattle.model.specs.Refusal.{content_in, node, settle}
use Rattle.model.specs.Meaning.{image_lines}
use Rattle.refusals.specs.Told.{told}
use Rattle.link_list.specs.Links.{links_path, file_lines}
use Rattle.refusals.specs.declared.Refusal.{Refusal}

-- the bytes of LINKS, or the base's refusal
unfoldable pub file_loaded : (d b : Bytes) → Answer Bytes
file_loaded d b = settle (image_lines b ++ file_lines d (tree_of b)) refused (granted (content_in (node (links_path d) (tree_of b))))

-- so many bytes were put at the front of those lent; they are the whole file if there was room for more, or for the longest file that there is
abbrev pub Loads : (d b file : Bytes) → (room : ℕ) → Result ℕ Refusal → Type 0
Loads d b v room (Ok n) = (n ≤ room) × ((n < room) ⊎ (65025 ≤ room) → granted (take n v) ≡ file_loaded d b)
Loads d b v room (Err r) = refused (told r) ≡ file_loaded d b
